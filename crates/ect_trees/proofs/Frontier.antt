-- The search by a frontier: one that waits and costs least is taken out, its edges are looked at one by one, and where
-- nothing waits any more, the ways are low at every edge.
use Rattle.std.proofs.Common.{◌≡◌, ◌≢◌, ℕ, ◌+◌, ◌≤◌, ◌⊎◌, inl, inr, List, [], ◌∷◌, ◌++◌, length, Option, Some, None, IsSome, sym, ap, ◌∙◌, subst, arith}
use Rattle.std.proofs.lemmas.Option.{same_Some}
use Rattle.spb_types.specs.Graph.{IsAmong, IsDistinct, IsBridge, IsValid, cost_between, systems_of}
use Rattle.spb_types.specs.declared.address.SystemId.{SystemId}
use Rattle.spb_types.specs.declared.graph.Graph.{Graph}
use Rattle.ect_trees.specs.Path.{IsPath, cost_of}
use Rattle.ect_trees.specs.Key.{key_of, IsBelow}
use Rattle.ect_trees.specs.Low.{LowAt, AreLow}
use Rattle.ect_trees.specs.Frontier.{CostsAtMost, Front, During, WithoutOne, WithOne, WithWay}
use Rattle.ect_trees.proofs.Among.{eq_or_not, length-within}
use Rattle.ect_trees.proofs.Walks.{step, path_end, path_start, path_single, path_bridges, path_snoc, cost-snoc, step_positive, length-systems}
use Rattle.ect_trees.proofs.KeyOrder.{below_cost, below_trans, not_below_itself}
use Rattle.ect_trees.proofs.Steps.{joined_bridges}

-- the source alone waits at first, and only it has a way
pub at_first : (g : Graph) (mask : ℕ) (a : SystemId) (waits : SystemId → Type 0) (way : SystemId → Option (List SystemId)) → IsBridge g a → way a ≡ Some (a ∷ []) → ((x : SystemId) → x ≢ a → way x ≡ None) → waits a → ((x : SystemId) → waits x → x ≡ a) → Front g mask a [] waits way
at_first g mask a waits way h own none here alone = record {
  start = own;
  paths = λ x p e. let same = is_source x p e in subst (λ t. IsPath g a t p) (sym same) (subst (λ t. IsPath g a a t) (same_Some (a ∷ []) p (sym own ∙ subst (λ t. way t ≡ Some p) same e)) (path_single g a h));
  held = λ x w. (a ∷ [], subst (λ t. way t ≡ Some (a ∷ [])) (sym (alone x w)) own);
  low = λ x y p e joined off. inr (subst (λ t. waits t) (sym (is_source x p e)) here);
  apart = tt;
  bridges = λ z i. absurd i;
  above = λ z x p i w e. absurd i;
  settled = λ z i. absurd i;
  out = λ z i w. i;
}
  where
    is_source : (x : SystemId) (p : List SystemId) → way x ≡ Some p → x ≡ a
    is_source x p e = elim (eq_or_not x a) [ inl s ↦ s | inr d ↦ let t : None ≡ Some p = sym (none x d) ∙ e in absurd (cc) ]

-- one that waits and costs least is taken out, and each of its edges is to come
pub taken : (g : Graph) (mask : ℕ) (a : SystemId) (done : List SystemId) (x : SystemId) (p : List SystemId) (waits now left : SystemId → Type 0) (way : SystemId → Option (List SystemId)) → Front g mask a done waits way → waits x → way x ≡ Some p → ((z : SystemId) (q : List SystemId) → waits z → way z ≡ Some q → cost_of g p ≤ cost_of g q) → WithoutOne x waits now → ((v : SystemId) → IsSome (cost_between g x v) → left v) → During g mask a (x ∷ done) x p now left way
taken g mask a done x p waits now left way front w own least without all = record {
  start = front.start;
  paths = front.paths;
  held = λ u n. front.held u (without.kept u n);
  own = own;
  low = low_at;
  apart = ((λ i. front.out x i w), front.apart);
  bridges = bridge_at;
  below = below_at;
  above = λ z q n e. least z q (without.kept z n) e;
  out = out_at;
}
  where
    low_at : (u v : SystemId) (q : List SystemId) → way u ≡ Some q → IsSome (cost_between g u v) → (IsAmong v q → ⊥) → LowAt g mask way v (q ++ v ∷ []) ⊎ (now u ⊎ ((u ≡ x) × left v))
    low_at u v q e joined off =
        elim (front.low u v q e joined off) [
          | inl l ↦ inl l
          | inr t ↦ elim (without.others u t) [ inl s ↦ inr (inr (s, all v (subst (λ r. IsSome (cost_between g r v)) s joined))) | inr n ↦ inr (inl n) ]
        ]

    bridge_at : (z : SystemId) → IsAmong z (x ∷ done) → IsBridge g z
    bridge_at z (inl s) = path_bridges g a z z p (front.paths z p (subst (λ t. way t ≡ Some p) (sym s) own)) (path_end g a z p (front.paths z p (subst (λ t. way t ≡ Some p) (sym s) own)))
    bridge_at z (inr i) = front.bridges z i

    below_at : (z : SystemId) → IsAmong z (x ∷ done) → CostsAtMost g way z (cost_of g p)
    below_at z (inl s) = (p, subst (λ t. way t ≡ Some p) (sym s) own, omega arith)
    below_at z (inr i) = front.above z x p i w own

    out_at : (z : SystemId) → IsAmong z (x ∷ done) → now z → ⊥
    out_at z (inl s) n = without.gone (subst (λ t. now t) s n)
    out_at z (inr i) n = front.out z i (without.kept z n)

-- the edge to y gives nothing lower: it is looked at
pub relaxed_same : (g : Graph) (mask : ℕ) (a : SystemId) (done : List SystemId) (x : SystemId) (p : List SystemId) (waits left less : SystemId → Type 0) (way : SystemId → Option (List SystemId)) (y : SystemId) → During g mask a done x p waits left way → ((v : SystemId) → left v → (v ≡ y) ⊎ less v) → ((IsAmong y p → ⊥) → LowAt g mask way y (p ++ y ∷ [])) → During g mask a done x p waits less way
relaxed_same g mask a done x p waits left less way y d off_left is_low = record {
  start = d.start;
  paths = d.paths;
  held = d.held;
  own = d.own;
  low = low_at;
  apart = d.apart;
  bridges = d.bridges;
  below = d.below;
  above = d.above;
  out = d.out;
}
  where
    at_end : (u v : SystemId) (q : List SystemId) → way u ≡ Some q → (IsAmong v q → ⊥) → u ≡ x → v ≡ y → LowAt g mask way v (q ++ v ∷ [])
    at_end u v q e off s t =
        let same : p ≡ q = same_Some p q (sym d.own ∙ subst (λ r. way r ≡ Some q) s e) in
        let here : (IsAmong v p → ⊥) → LowAt g mask way v (p ++ v ∷ []) = subst (λ r. (IsAmong r p → ⊥) → LowAt g mask way r (p ++ r ∷ [])) (sym t) is_low in
        subst (λ r. LowAt g mask way v (r ++ v ∷ [])) same (here (λ i. off (subst (λ r. IsAmong v r) same i)))

    low_at : (u v : SystemId) (q : List SystemId) → way u ≡ Some q → IsSome (cost_between g u v) → (IsAmong v q → ⊥) → LowAt g mask way v (q ++ v ∷ []) ⊎ (waits u ⊎ ((u ≡ x) × less v))
    low_at u v q e joined off =
        elim (d.low u v q e joined off) [
          | inl l ↦ inl l
          | inr (inl w) ↦ inr (inl w)
          | inr (inr h) ↦ elim (off_left v h.1) [ inl t ↦ inl (at_end u v q e off h.0 t) | inr k ↦ inr (inr (h.0, k)) ]
        ]

-- a bridge with a way that costs at most as much as p gets no lower way over p
cheap_stays : (g : Graph) (mask : ℕ) (a x y : SystemId) (p : List SystemId) (way : SystemId → Option (List SystemId)) → IsValid g → IsPath g a x p → IsSome (cost_between g x y) → ((q : List SystemId) → way y ≡ Some q → IsBelow (key_of g mask (p ++ y ∷ [])) (key_of g mask q)) → CostsAtMost g way y (cost_of g p) → ⊥
cheap_stays g mask a x y p way valid path joined lower h =
    let more : cost_of g (p ++ y ∷ []) ≡ cost_of g p + step g x y = cost-snoc g a x y p path in
    let one : 1 ≤ step g x y = step_positive g x y valid joined in
    let high : cost_of g (p ++ y ∷ []) ≤ cost_of g h.0 = below_cost (key_of g mask (p ++ y ∷ [])) (key_of g mask h.0) (lower h.0 h.1) in
    let few : cost_of g h.0 ≤ cost_of g p = h.2 in
    absurd (omega (arith, more, one, high, few))

-- the edge to y gives y the way over p, below the one that it had if it had one: y waits
pub relaxed_lower : (g : Graph) (mask : ℕ) (a : SystemId) (done : List SystemId) (x : SystemId) (p : List SystemId) (waits more left less : SystemId → Type 0) (way next : SystemId → Option (List SystemId)) (y : SystemId) → IsValid g → During g mask a done x p waits left way → ((v : SystemId) → left v → (v ≡ y) ⊎ less v) → IsSome (cost_between g x y) → (IsAmong y p → ⊥) → ((q : List SystemId) → way y ≡ Some q → IsBelow (key_of g mask (p ++ y ∷ [])) (key_of g mask q)) → WithWay y (p ++ y ∷ []) way next → WithOne y waits more → During g mask a done x p more less next
relaxed_lower g mask a done x p waits more left less way next y valid d off_left joined off lower with_way with_one = record {
  start = with_way.others a (λ s. off (subst (λ t. IsAmong t p) s (path_start g a x p path))) ∙ d.start;
  paths = paths_at;
  held = held_at;
  own = with_way.others x (λ s. off (subst (λ t. IsAmong t p) s (path_end g a x p path))) ∙ d.own;
  low = low_at;
  apart = d.apart;
  bridges = d.bridges;
  below = below_at;
  above = above_at;
  out = out_at;
}
  where
    path : IsPath g a x p
    path = d.paths x p d.own

    not_done : IsAmong y done → ⊥
    not_done i = cheap_stays g mask a x y p way valid path joined lower (d.below y i)

    way_here : (z : SystemId) → z ≡ y → next z ≡ Some (p ++ y ∷ [])
    way_here z s = subst (λ t. next t ≡ Some (p ++ y ∷ [])) (sym s) with_way.here

    is_longer : (z : SystemId) (q : List SystemId) → next z ≡ Some q → z ≡ y → p ++ y ∷ [] ≡ q
    is_longer z q e s = same_Some (p ++ y ∷ []) q (sym (way_here z s) ∙ e)

    paths_at : (z : SystemId) (q : List SystemId) → next z ≡ Some q → IsPath g a z q
    paths_at z q e =
        elim (eq_or_not z y) [
          | inl s ↦ subst (λ t. IsPath g a z t) (is_longer z q e s) (subst (λ t. IsPath g a t (p ++ y ∷ [])) (sym s) (path_snoc g a x y p path joined (joined_bridges g x y valid joined).1 off))
          | inr n ↦ d.paths z q (sym (with_way.others z n) ∙ e)
        ]

    held_at : (z : SystemId) → more z → (q : List SystemId) × (next z ≡ Some q)
    held_at z m =
        elim (eq_or_not z y) [
          | inl s ↦ (p ++ y ∷ [], way_here z s)
          | inr n ↦ elim (with_one.others z m) [ inl s ↦ absurd (n s) | inr w ↦ let h = d.held z w in (h.0, with_way.others z n ∙ h.1) ]
        ]

    -- what wasn't below the old way isn't below the new one
    lowered : (v : SystemId) (r : List SystemId) → LowAt g mask way v r → LowAt g mask next v r
    lowered v r l =
        elim (eq_or_not v y) [
          | inl s ↦ (p ++ y ∷ [], way_here v s, (λ b. l.2 (below_trans (key_of g mask r) (key_of g mask (p ++ y ∷ [])) (key_of g mask l.0) b (lower l.0 (subst (λ t. way t ≡ Some l.0) s l.1)))))
          | inr n ↦ (l.0, with_way.others v n ∙ l.1, l.2)
        ]

    -- nor is the new way below itself
    at_end : (u v : SystemId) (q : List SystemId) → way u ≡ Some q → u ≡ x → v ≡ y → LowAt g mask next v (q ++ v ∷ [])
    at_end u v q e s t =
        let same : p ≡ q = same_Some p q (sym d.own ∙ subst (λ r. way r ≡ Some q) s e) in
        let whole : p ++ y ∷ [] ≡ q ++ v ∷ [] = ap (λ r. r ++ y ∷ []) same ∙ ap (λ r. q ++ r ∷ []) (sym t) in
        (q ++ v ∷ [], way_here v t ∙ ap Some whole, not_below_itself (key_of g mask (q ++ v ∷ [])))

    low_at : (u v : SystemId) (q : List SystemId) → next u ≡ Some q → IsSome (cost_between g u v) → (IsAmong v q → ⊥) → LowAt g mask next v (q ++ v ∷ []) ⊎ (more u ⊎ ((u ≡ x) × less v))
    low_at u v q e edge free =
        elim (eq_or_not u y) [
          | inl s ↦ inr (inl (subst (λ t. more t) (sym s) with_one.here))
          | inr n ↦ elim (d.low u v q (sym (with_way.others u n) ∙ e) edge free) [
            | inl l ↦ inl (lowered v (q ++ v ∷ []) l)
            | inr (inl w) ↦ inr (inl (with_one.kept u w))
            | inr (inr h) ↦ elim (off_left v h.1) [ inl t ↦ inl (at_end u v q (sym (with_way.others u n) ∙ e) h.0 t) | inr k ↦ inr (inr (h.0, k)) ]
          ]
        ]

    below_at : (z : SystemId) → IsAmong z done → CostsAtMost g next z (cost_of g p)
    below_at z i = let h = d.below z i in (h.0, with_way.others z (λ s. not_done (subst (λ t. IsAmong t done) s i)) ∙ h.1, h.2)

    above_at : (z : SystemId) (q : List SystemId) → more z → next z ≡ Some q → cost_of g p ≤ cost_of g q
    above_at z q m e =
        elim (eq_or_not z y) [
          | inl s ↦
              let sum : cost_of g (p ++ y ∷ []) ≡ cost_of g p + step g x y = cost-snoc g a x y p path in
              let same : cost_of g (p ++ y ∷ []) ≡ cost_of g q = ap (cost_of g) (is_longer z q e s) in
              omega (arith, sum, same)
          | inr n ↦ elim (with_one.others z m) [ inl s ↦ absurd (n s) | inr w ↦ d.above z q w (sym (with_way.others z n) ∙ e) ]
        ]

    out_at : (z : SystemId) → IsAmong z done → more z → ⊥
    out_at z i m = elim (with_one.others z m) [ inl s ↦ not_done (subst (λ t. IsAmong t done) s i) | inr w ↦ d.out z i w ]

-- no edge is left to come
pub x_done : (g : Graph) (mask : ℕ) (a : SystemId) (done : List SystemId) (x : SystemId) (p : List SystemId) (waits left : SystemId → Type 0) (way : SystemId → Option (List SystemId)) → During g mask a done x p waits left way → ((v : SystemId) → left v → ⊥) → Front g mask a done waits way
x_done g mask a done x p waits left way d none = record {
  start = d.start;
  paths = d.paths;
  held = d.held;
  low = λ u v q e joined off. elim (d.low u v q e joined off) [ inl l ↦ inl l | inr (inl w) ↦ inr w | inr (inr h) ↦ absurd (none v h.1) ];
  apart = d.apart;
  bridges = d.bridges;
  above = above_at;
  settled = λ z i. let h = d.below z i in (h.0, h.1);
  out = d.out;
}
  where
    above_at : (z u : SystemId) (q : List SystemId) → IsAmong z done → waits u → way u ≡ Some q → CostsAtMost g way z (cost_of g q)
    above_at z u q i w e =
        let h = d.below z i in
        let low : cost_of g h.0 ≤ cost_of g p = h.2 in
        let high : cost_of g p ≤ cost_of g q = d.above u q w e in
        (h.0, h.1, omega (arith, low, high))

-- nothing waits: the ways are low at every edge
pub none_waits : (g : Graph) (mask : ℕ) (a : SystemId) (done : List SystemId) (waits : SystemId → Type 0) (way : SystemId → Option (List SystemId)) → Front g mask a done waits way → ((x : SystemId) → waits x → ⊥) → AreLow g mask a way
none_waits g mask a done waits way front none = record {
  start = front.start;
  paths = front.paths;
  low = λ x y p e joined off. elim (front.low x y p e joined off) [ inl l ↦ l | inr w ↦ absurd (none x w) ];
}

-- no more bridges are done than the graph has
pub done_within : (g : Graph) (done : List SystemId) → IsDistinct done → ((z : SystemId) → IsAmong z done → IsBridge g z) → length done ≤ length g.bridges
done_within g done apart bridges =
    let few : length done ≤ length (systems_of g.bridges) = length-within done (systems_of g.bridges) apart bridges in
    omega (arith, few, length-systems g.bridges)
