-- A path that doesn't step over the changed edge is a path of both graphs, with the same key.
use Rattle.std.proofs.Common.{◌≡◌, ℕ, ◌+◌, ◌⊎◌, inl, inr, List, [], ◌∷◌, ◌++◌, map, Option, Some, None, IsSome, unwrap_or, refl, sym, ap, ◌∙◌, subst, arith}
use Rattle.std.proofs.lemmas.Option.{same_Some}
use Rattle.spb_types.specs.Address.{masked}
use Rattle.spb_types.specs.Graph.{IsAmong, IsBridge, IsValid, systems_of, cost_between}
use Rattle.spb_types.specs.declared.address.SystemId.{SystemId}
use Rattle.spb_types.specs.declared.graph.Graph.{Graph}
use Rattle.ect_trees.specs.Path.{Leads, IsPath, cost_along, cost_of, hops_of}
use Rattle.ect_trees.specs.Key.{bridge_id_among, sorted_ids, key_of, IsBelow}
use Rattle.ect_trees.specs.Best.{best_of}
use Rattle.ect_trees.specs.Low.{LowAt}
use Rattle.ect_trees.specs.Change.{IsOther, DiffersAt}
use Rattle.ect_trees.specs.Repair.{ArePair, Avoids, IsForgotten, Reaching}
use Rattle.ect_trees.proofs.Among.{eq_or_not}
use Rattle.ect_trees.proofs.Walks.{step, cost-snoc}
use Rattle.ect_trees.proofs.Low.{best_is_low}

-- whether two bridges are the two is decided
pub pair_or_not : (a b x y : SystemId) → ArePair a b x y ⊎ (ArePair a b x y → ⊥)
pair_or_not a b x y = by (eq_or_not x a) (eq_or_not y b) (eq_or_not x b) (eq_or_not y a)
  where
    by : (x ≡ a) ⊎ (x ≡ a → ⊥) → (y ≡ b) ⊎ (y ≡ b → ⊥) → (x ≡ b) ⊎ (x ≡ b → ⊥) → (y ≡ a) ⊎ (y ≡ a → ⊥) → ArePair a b x y ⊎ (ArePair a b x y → ⊥)
    by (inl e) (inl f) i j = inl (inl (e, f))
    by e f (inl i) (inl j) = inl (inr (i, j))
    by (inr n) f (inr m) j = inr (λ h. elim h [ inl k ↦ n k.0 | inr k ↦ m k.0 ])
    by (inr n) f (inl i) (inr m) = inr (λ h. elim h [ inl k ↦ n k.0 | inr k ↦ m k.1 ])
    by (inl e) (inr n) (inr m) j = inr (λ h. elim h [ inl k ↦ n k.1 | inr k ↦ m k.0 ])
    by (inl e) (inr n) (inl i) (inr m) = inr (λ h. elim h [ inl k ↦ n k.1 | inr k ↦ m k.1 ])

other_is : (a b x y : SystemId) → (ArePair a b x y → ⊥) → IsOther a b x y
other_is a b x y n = ((λ e f. n (inl (e, f))), (λ e f. n (inr (e, f))))

bridge_stays : (a b : SystemId) (g h : Graph) (x : SystemId) → DiffersAt a b g h → IsBridge g x → IsBridge h x
bridge_stays a b g h x d i = subst (λ t. IsAmong x (systems_of t)) (sym d.bridges) i

leads_avoiding : (a b : SystemId) (g h : Graph) (s x : SystemId) (xs : List SystemId) → DiffersAt a b g h → Leads g s xs x → Avoids a b (s ∷ xs) → Leads h s xs x
leads_avoiding a b g h s x [] d l v = (bridge_stays a b g h s d l.0, l.1)
leads_avoiding a b g h s x (y ∷ ys) d l v =
    (bridge_stays a b g h s d l.0, subst (λ o. IsSome o) (sym (d.costs s y (other_is a b s y v.0))) l.1, leads_avoiding a b g h y x ys d l.2 v.1)

pub path_avoiding : (a b : SystemId) (g h : Graph) (s x : SystemId) (p : List SystemId) → DiffersAt a b g h → IsPath g s x p → Avoids a b p → IsPath h s x p
path_avoiding a b g h s x [] d w v = absurd w
path_avoiding a b g h s x (y ∷ ys) d w v = (w.0, leads_avoiding a b g h y x ys d w.1 v, w.2)

along_avoiding : (a b : SystemId) (g h : Graph) (x : SystemId) (xs : List SystemId) → DiffersAt a b g h → Avoids a b (x ∷ xs) → cost_along h x xs ≡ cost_along g x xs
along_avoiding a b g h x [] d v = refl
along_avoiding a b g h x (y ∷ ys) d v =
    let one : step h x y ≡ step g x y = ap (λ o. unwrap_or o 0) (d.costs x y (other_is a b x y v.0)) in
    let more : cost_along h y ys ≡ cost_along g y ys = along_avoiding a b g h y ys d v.1 in
    omega (arith, one, more)

-- it costs the same
pub cost_avoiding : (a b : SystemId) (g h : Graph) (p : List SystemId) → DiffersAt a b g h → Avoids a b p → cost_of h p ≡ cost_of g p
cost_avoiding a b g h [] d v = refl
cost_avoiding a b g h (x ∷ xs) d v = along_avoiding a b g h x xs d v

-- over the same bridges, paths that cost the same have the same key
key_same : (g h : Graph) (mask : ℕ) (p : List SystemId) → h.bridges ≡ g.bridges → cost_of h p ≡ cost_of g p → key_of h mask p ≡ key_of g mask p
key_same g h mask p e c = λ i. record { cost = c i; hops = hops_of p; ids = sorted_ids (map (λ x. masked mask (bridge_id_among (e i) x)) p) }

-- so its key is the same
pub key_avoiding : (a b : SystemId) (g h : Graph) (mask : ℕ) (p : List SystemId) → DiffersAt a b g h → Avoids a b p → key_of h mask p ≡ key_of g mask p
key_avoiding a b g h mask p d v = key_same g h mask p d.bridges (cost_avoiding a b g h p d v)

-- and that with one bridge more, over another edge
pub key_longer : (a b : SystemId) (g h : Graph) (mask : ℕ) (s x y : SystemId) (p : List SystemId) → DiffersAt a b g h → IsPath g s x p → Avoids a b p → (ArePair a b x y → ⊥) → key_of h mask (p ++ y ∷ []) ≡ key_of g mask (p ++ y ∷ [])
key_longer a b g h mask s x y p d w v other = key_same g h mask (p ++ y ∷ []) d.bridges cost
  where
    cost : cost_of h (p ++ y ∷ []) ≡ cost_of g (p ++ y ∷ [])
    cost =
        let there : cost_of h (p ++ y ∷ []) ≡ cost_of h p + step h x y = cost-snoc h s x y p (path_avoiding a b g h s x p d w v) in
        let here : cost_of g (p ++ y ∷ []) ≡ cost_of g p + step g x y = cost-snoc g s x y p w in
        let front : cost_of h p ≡ cost_of g p = cost_avoiding a b g h p d v in
        let last : step h x y ≡ step g x y = ap (λ o. unwrap_or o 0) (d.costs x y (other_is a b x y other)) in
        omega (arith, there, here, front, last)

-- from a best path that avoids the edge, another edge leads on: there was a best path to its end, and if that avoids the
-- edge too, the longer path isn't below it
pub kept_low : (a b : SystemId) (g h : Graph) (mask : ℕ) (s x y : SystemId) (p : List SystemId) → IsValid g → IsBridge g s → DiffersAt a b g h → best_of g mask s x ≡ Some p → Avoids a b p → (ArePair a b x y → ⊥) → IsSome (cost_between h x y) → (IsAmong y p → ⊥) → (q : List SystemId) × (best_of g mask s y ≡ Some q) × (Avoids a b q → IsBelow (key_of h mask (p ++ y ∷ [])) (key_of h mask q) → ⊥)
kept_low a b g h mask s x y p valid at d e v other joined off =
    let low = best_is_low g mask s valid at in
    let path : IsPath g s x p = low.paths x p e in
    let was : IsSome (cost_between g x y) = subst (λ o. IsSome o) (d.costs x y (other_is a b x y other)) joined in
    let found : LowAt g mask (λ z. best_of g mask s z) y (p ++ y ∷ []) = low.low x y p e was off in (
      found.0,
      found.1,
      λ u below.
          found.2 (subst (λ k. IsBelow k (key_of g mask found.0)) (key_longer a b g h mask s x y p d path v other)
          (subst (λ k. IsBelow (key_of h mask (p ++ y ∷ [])) k) (key_avoiding a b g h mask found.0 d u) below)),
    )

-- once the ways over the edge are forgotten, the edges into a bridge without a way are left, and the changed edge
pub forgotten : (a b : SystemId) (g h : Graph) (mask : ℕ) (s : SystemId) (waits : SystemId → Type 0) (left : SystemId → SystemId → Type 0) (way now : SystemId → Option (List SystemId)) → IsValid g → IsBridge g s → DiffersAt a b g h → ((x : SystemId) → way x ≡ best_of g mask s x) → IsForgotten a b way now → ((x : SystemId) → waits x → ⊥) → ((u v : SystemId) → IsSome (cost_between h u v) → now v ≡ None → left u v) → ((u v : SystemId) → ArePair a b u v → left u v) → Reaching h mask s waits left now
forgotten a b g h mask s waits left way now valid at d best f none lost edge = record {
  start = f.kept s (s ∷ []) (best s ∙ (best_is_low g mask s valid at).start) tt;
  paths = λ x p e. path_avoiding a b g h s x p d ((best_is_low g mask s valid at).paths x p (was x p e)) (f.was x p e).1;
  held = λ x w. absurd (none x w);
  low = low_at;
}
  where
    was : (x : SystemId) (p : List SystemId) → now x ≡ Some p → best_of g mask s x ≡ Some p
    was x p e = sym (best x) ∙ (f.was x p e).0

    low_at : (x y : SystemId) (p : List SystemId) → now x ≡ Some p → IsSome (cost_between h x y) → (IsAmong y p → ⊥) → LowAt h mask now y (p ++ y ∷ []) ⊎ (waits x ⊎ left x y)
    low_at x y p e joined off = elim (pair_or_not a b x y) [ inl i ↦ inr (inr (edge x y i)) | inr other ↦ by other (now y) refl ]
      where
        by : (ArePair a b x y → ⊥) → (o : Option (List SystemId)) → now y ≡ o → LowAt h mask now y (p ++ y ∷ []) ⊎ (waits x ⊎ left x y)
        by other None k = inr (inr (lost x y joined k))
        by other (Some r) k =
            let low = kept_low a b g h mask s x y p valid at d (was x p e) (f.was x p e).1 other joined off in
            let same : low.0 ≡ r = same_Some low.0 r (sym low.1 ∙ was y r k) in
            inl (r, k, subst (λ t. IsBelow (key_of h mask (p ++ y ∷ [])) (key_of h mask t) → ⊥) same (low.2 (subst (Avoids a b) (sym same) (f.was y r k).1)))
