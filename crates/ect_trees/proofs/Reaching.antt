-- The edges that are left are looked at one after the other, until none is left: the frontier of a search.
use Rattle.std.proofs.Common.{◌≡◌, ℕ, ◌⊎◌, inl, inr, List, [], ◌∷◌, ◌++◌, Option, Some, IsSome, sym, ap, ◌∙◌, subst}
use Rattle.std.proofs.lemmas.Option.{same_Some}
use Rattle.spb_types.specs.Graph.{IsAmong, IsValid, cost_between}
use Rattle.spb_types.specs.declared.address.SystemId.{SystemId}
use Rattle.spb_types.specs.declared.graph.Graph.{Graph}
use Rattle.ect_trees.specs.Path.{IsPath}
use Rattle.ect_trees.specs.Key.{key_of, IsBelow}
use Rattle.ect_trees.specs.Low.{LowAt}
use Rattle.ect_trees.specs.Frontier.{Front, WithOne, WithWay}
use Rattle.ect_trees.specs.Repair.{Reaching}
use Rattle.ect_trees.proofs.Among.{eq_or_not}
use Rattle.ect_trees.proofs.Walks.{path_start, path_snoc}
use Rattle.ect_trees.proofs.KeyOrder.{below_trans, not_below_itself}
use Rattle.ect_trees.proofs.Steps.{joined_bridges}

-- what is left may be told by other words, at edges
pub left_otherwise : (g : Graph) (mask : ℕ) (a : SystemId) (waits : SystemId → Type 0) (left other : SystemId → SystemId → Type 0) (way : SystemId → Option (List SystemId)) → Reaching g mask a waits left way → ((u v : SystemId) → IsSome (cost_between g u v) → left u v → other u v) → Reaching g mask a waits other way
left_otherwise g mask a waits left other way r to = record {
  start = r.start;
  paths = r.paths;
  held = r.held;
  low = λ u v q e joined off. elim (r.low u v q e joined off) [ inl l ↦ inl l | inr (inl w) ↦ inr (inl w) | inr (inr k) ↦ inr (inr (to u v joined k)) ];
}

-- the edge from x to y gives nothing lower: it is looked at
pub reached_same : (g : Graph) (mask : ℕ) (a x y : SystemId) (waits : SystemId → Type 0) (left less : SystemId → SystemId → Type 0) (way : SystemId → Option (List SystemId)) → Reaching g mask a waits left way → ((u v : SystemId) → left u v → ((u ≡ x) × (v ≡ y)) ⊎ less u v) → ((p : List SystemId) → way x ≡ Some p → (IsAmong y p → ⊥) → LowAt g mask way y (p ++ y ∷ [])) → Reaching g mask a waits less way
reached_same g mask a x y waits left less way r strike is_low = record { start = r.start; paths = r.paths; held = r.held; low = low_at }
  where
    at_end : (u v : SystemId) (q : List SystemId) → way u ≡ Some q → (IsAmong v q → ⊥) → u ≡ x → v ≡ y → LowAt g mask way v (q ++ v ∷ [])
    at_end u v q e off s t =
        subst (λ z. LowAt g mask way z (q ++ z ∷ [])) (sym t) (is_low q (subst (λ z. way z ≡ Some q) s e) (λ i. off (subst (λ z. IsAmong z q) (sym t) i)))

    low_at : (u v : SystemId) (q : List SystemId) → way u ≡ Some q → IsSome (cost_between g u v) → (IsAmong v q → ⊥) → LowAt g mask way v (q ++ v ∷ []) ⊎ (waits u ⊎ less u v)
    low_at u v q e joined off =
        elim (r.low u v q e joined off) [
          | inl l ↦ inl l
          | inr (inl w) ↦ inr (inl w)
          | inr (inr k) ↦ elim (strike u v k) [ inl s ↦ inl (at_end u v q e off s.0 s.1) | inr l ↦ inr (inr l) ]
        ]

-- the edge from x to y gives y the way over that to x, below the one that it had if it had one: y waits
pub reached_lower : (g : Graph) (mask : ℕ) (a x y : SystemId) (p : List SystemId) (waits more : SystemId → Type 0) (left less : SystemId → SystemId → Type 0) (way next : SystemId → Option (List SystemId)) → IsValid g → Reaching g mask a waits left way → way x ≡ Some p → ((u v : SystemId) → left u v → ((u ≡ x) × (v ≡ y)) ⊎ less u v) → IsSome (cost_between g x y) → (IsAmong y p → ⊥) → ((q : List SystemId) → way y ≡ Some q → IsBelow (key_of g mask (p ++ y ∷ [])) (key_of g mask q)) → WithWay y (p ++ y ∷ []) way next → WithOne y waits more → Reaching g mask a more less next
reached_lower g mask a x y p waits more left less way next valid r own strike joined off lower with_way with_one = record {
  start = with_way.others a (λ s. off (subst (λ t. IsAmong t p) s (path_start g a x p path))) ∙ r.start;
  paths = paths_at;
  held = held_at;
  low = low_at;
}
  where
    path : IsPath g a x p
    path = r.paths x p own

    way_here : (z : SystemId) → z ≡ y → next z ≡ Some (p ++ y ∷ [])
    way_here z s = subst (λ t. next t ≡ Some (p ++ y ∷ [])) (sym s) with_way.here

    is_longer : (z : SystemId) (q : List SystemId) → next z ≡ Some q → z ≡ y → p ++ y ∷ [] ≡ q
    is_longer z q e s = same_Some (p ++ y ∷ []) q (sym (way_here z s) ∙ e)

    paths_at : (z : SystemId) (q : List SystemId) → next z ≡ Some q → IsPath g a z q
    paths_at z q e =
        elim (eq_or_not z y) [
          | inl s ↦ subst (λ t. IsPath g a z t) (is_longer z q e s) (subst (λ t. IsPath g a t (p ++ y ∷ [])) (sym s) (path_snoc g a x y p path joined (joined_bridges g x y valid joined).1 off))
          | inr n ↦ r.paths z q (sym (with_way.others z n) ∙ e)
        ]

    held_at : (z : SystemId) → more z → (q : List SystemId) × (next z ≡ Some q)
    held_at z m =
        elim (eq_or_not z y) [
          | inl s ↦ (p ++ y ∷ [], way_here z s)
          | inr n ↦ elim (with_one.others z m) [ inl s ↦ absurd (n s) | inr w ↦ let h = r.held z w in (h.0, with_way.others z n ∙ h.1) ]
        ]

    -- what wasn't below the old way isn't below the new one
    lowered : (v : SystemId) (q : List SystemId) → LowAt g mask way v q → LowAt g mask next v q
    lowered v q l =
        elim (eq_or_not v y) [
          | inl s ↦ (p ++ y ∷ [], way_here v s, (λ b. l.2 (below_trans (key_of g mask q) (key_of g mask (p ++ y ∷ [])) (key_of g mask l.0) b (lower l.0 (subst (λ t. way t ≡ Some l.0) s l.1)))))
          | inr n ↦ (l.0, with_way.others v n ∙ l.1, l.2)
        ]

    -- nor is the new way below itself
    at_end : (u v : SystemId) (q : List SystemId) → way u ≡ Some q → u ≡ x → v ≡ y → LowAt g mask next v (q ++ v ∷ [])
    at_end u v q e s t =
        let same : p ≡ q = same_Some p q (sym own ∙ subst (λ z. way z ≡ Some q) s e) in
        let whole : p ++ y ∷ [] ≡ q ++ v ∷ [] = ap (λ z. z ++ y ∷ []) same ∙ ap (λ z. q ++ z ∷ []) (sym t) in
        (q ++ v ∷ [], way_here v t ∙ ap Some whole, not_below_itself (key_of g mask (q ++ v ∷ [])))

    low_at : (u v : SystemId) (q : List SystemId) → next u ≡ Some q → IsSome (cost_between g u v) → (IsAmong v q → ⊥) → LowAt g mask next v (q ++ v ∷ []) ⊎ (more u ⊎ less u v)
    low_at u v q e edge free =
        elim (eq_or_not u y) [
          | inl s ↦ inr (inl (subst (λ t. more t) (sym s) with_one.here))
          | inr n ↦ elim (r.low u v q (sym (with_way.others u n) ∙ e) edge free) [
            | inl l ↦ inl (lowered v (q ++ v ∷ []) l)
            | inr (inl w) ↦ inr (inl (with_one.kept u w))
            | inr (inr k) ↦ elim (strike u v k) [ inl s ↦ inl (at_end u v q (sym (with_way.others u n) ∙ e) s.0 s.1) | inr l ↦ inr (inr l) ]
          ]
        ]

-- no edge is left: none is done yet
pub reached_all : (g : Graph) (mask : ℕ) (a : SystemId) (waits : SystemId → Type 0) (left : SystemId → SystemId → Type 0) (way : SystemId → Option (List SystemId)) → Reaching g mask a waits left way → ((u v : SystemId) → IsSome (cost_between g u v) → left u v → ⊥) → Front g mask a [] waits way
reached_all g mask a waits left way r none = record {
  start = r.start;
  paths = r.paths;
  held = r.held;
  low = λ u v q e joined off. elim (r.low u v q e joined off) [ inl l ↦ inl l | inr (inl w) ↦ inr w | inr (inr k) ↦ absurd (none u v joined k) ];
  apart = tt;
  bridges = λ z i. absurd i;
  above = λ z x p i w e. absurd i;
  settled = λ z i. absurd i;
  out = λ z i w. i;
}
