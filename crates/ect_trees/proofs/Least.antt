-- Least paths: their parts are least, no tie is least, and so a best path is unique, its parts are best and it is best in reverse.
use Rattle.std.proofs.Common.{◌≡◌, ℕ, ◌+◌, ◌<◌, ◌≤◌, ◌≢◌, ◌⊎◌, inl, inr, List, [], ◌∷◌, ◌++◌, length, reverse, IsSome, refl, sym, ap, ◌∙◌, subst, arith, append_assoc}
use Rattle.std.proofs.lemmas.List.{reverse-append, reverse-reverse, length-append}
use Rattle.spb_types.specs.Graph.{IsAmong, IsValid, cost_between}
use Rattle.spb_types.specs.declared.address.SystemId.{SystemId}
use Rattle.spb_types.specs.declared.graph.Graph.{Graph}
use Rattle.ect_trees.specs.declared.key.PathKey.{PathKey}
use Rattle.ect_trees.specs.Path.{IsPath, cost_of, hops_of}
use Rattle.ect_trees.specs.Key.{key_of, IsBelow}
use Rattle.ect_trees.specs.Best.{IsBest}
use Rattle.ect_trees.specs.Laws.{IsLeast}
use Rattle.ect_trees.proofs.Among.{eq_or_not, among_or_not, among_split, reverse-cons}
use Rattle.ect_trees.proofs.Walks.{step, step_positive, path_cons, path_back, path_reverse, cost_back, cost-reverse, ids-reverse, hops-reverse}
use Rattle.ect_trees.proofs.KeyOrder.{not_below_itself, not_below_both, below_cases, below_cost, cheaper_below, key_cmp-cons, same_ids_among}

-- a path and its reverse have the same key
pub key_of-reverse : (g : Graph) (mask : ℕ) (a b : SystemId) (p : List SystemId) → IsPath g a b p → key_of g mask (reverse p) ≡ key_of g mask p
key_of-reverse g mask a b p w =
    let c : cost_of g (reverse p) ≡ cost_of g p = cost-reverse g a b p w in
    let h : hops_of (reverse p) ≡ hops_of p = hops-reverse p in
    λ i. record { cost = c i; hops = h i; ids = ids-reverse g mask p i }

-- a path cheaper than a least one does not exist
cheaper_is_none : (g : Graph) (mask : ℕ) (a b : SystemId) (p q : List SystemId) → IsLeast g mask a b p → IsPath g a b q → cost_of g q < cost_of g p → ⊥
cheaper_is_none g mask a b p q least w h = least.least q w (cheaper_below (key_of g mask q) (key_of g mask p) h)

least_start : (g : Graph) (mask : ℕ) (a b x : SystemId) (xs : List SystemId) → IsLeast g mask a b (x ∷ xs) → x ≡ a
least_start g mask a b x xs h = h.path.0

-- the rest of a least path behind its first bridge is least
tail_least : (g : Graph) (mask : ℕ) (a b x : SystemId) (xs : List SystemId) → IsValid g → IsLeast g mask a b (a ∷ x ∷ xs) → IsLeast g mask x b (x ∷ xs)
tail_least g mask a b x xs valid h = record {
  path = path_back g a b x (a ∷ []) xs h.path;
  least = λ q w below. at_start q w below (among_or_not a q);
}
  where
    joined : IsSome (cost_between g a x)
    joined = h.path.1.1

    at_start : (q : List SystemId) → IsPath g x b q → IsBelow (key_of g mask q) (key_of g mask (x ∷ xs)) → IsAmong a q ⊎ (IsAmong a q → ⊥) → ⊥
    at_start q w below (inr off) =
        h.least (a ∷ q) (path_cons g a b x q w joined h.path.1.0 off) (key_cmp-cons g mask a b b x q (x ∷ xs) w (path_back g a b x (a ∷ []) xs h.path) ∙ below)
    at_start q w below (inl on) =
        let s = among_split a q on in
        let part : IsPath g a b (a ∷ s.1) = path_back g x b a s.0 s.1 (subst (λ t. IsPath g x b t) s.2 w) in
        let shorter : cost_of g (a ∷ s.1) ≤ cost_of g q = subst (λ t. cost_of g (a ∷ s.1) ≤ cost_of g t) (sym s.2) (cost_back g a s.0 s.1) in
        let lower : cost_of g q ≤ cost_of g (x ∷ xs) = below_cost (key_of g mask q) (key_of g mask (x ∷ xs)) below in
        let positive : 1 ≤ step g a x = step_positive g a x valid joined in
        let whole : cost_of g (a ∷ x ∷ xs) ≡ step g a x + cost_of g (x ∷ xs) = refl in
        cheaper_is_none g mask a b (a ∷ x ∷ xs) (a ∷ s.1) h part (omega (arith, shorter, lower, positive, whole))

-- the part of a least path from a bridge on it is least
pub back_least : (g : Graph) (mask : ℕ) (a b x : SystemId) (l r : List SystemId) → IsValid g → IsLeast g mask a b (l ++ x ∷ r) → IsLeast g mask x b (x ∷ r)
back_least g mask a b x [] r valid h = subst (λ t. IsLeast g mask t b (x ∷ r)) (sym h.path.0) h
back_least g mask a b x (y ∷ []) r valid h =
    tail_least g mask y b x r valid (subst (λ t. IsLeast g mask t b (y ∷ x ∷ r)) (sym h.path.0) h)
back_least g mask a b x (y ∷ z ∷ l) r valid h =
    back_least g mask z b x (z ∷ l) r valid (tail_least g mask y b z (l ++ x ∷ r) valid (subst (λ t. IsLeast g mask t b (y ∷ z ∷ l ++ x ∷ r)) (sym h.path.0) h))

-- two least paths have one key
least_keys : (g : Graph) (mask : ℕ) (a b : SystemId) (p q : List SystemId) → IsLeast g mask a b p → IsLeast g mask a b q → key_of g mask p ≡ key_of g mask q
least_keys g mask a b p q h k =
    elim (below_cases (key_of g mask p) (key_of g mask q)) [
      | inl l ↦ absurd (k.least p h.path l)
      | inr (inl e) ↦ e
      | inr (inr m) ↦ absurd (h.least q k.path m)
    ]

least_lengths : (g : Graph) (mask : ℕ) (a b x y : SystemId) (xs ys : List SystemId) → IsLeast g mask a b (x ∷ xs) → IsLeast g mask a b (y ∷ ys) → length xs ≡ length ys
least_lengths g mask a b x y xs ys h k =
    let e : hops_of (x ∷ xs) ≡ hops_of (y ∷ ys) = ap (λ (t : PathKey). t.hops) (least_keys g mask a b (x ∷ xs) (y ∷ ys) h k) in
    omega (arith, e)

-- two least paths do not part at their first edge
part_at_first : (g : Graph) (mask : ℕ) (a b x y : SystemId) (xs ys : List SystemId) → IsValid g → IsLeast g mask a b (a ∷ x ∷ xs) → IsLeast g mask a b (a ∷ y ∷ ys) → x ≢ y → ⊥
part_at_first g mask a b x y xs ys valid h k d =
    at_x (same_ids_among g mask x (a ∷ x ∷ xs) (a ∷ y ∷ ys) (least_keys g mask a b (a ∷ x ∷ xs) (a ∷ y ∷ ys) h k) (inr (inl refl)))
  where
    later : IsAmong x ys → ⊥
    later i =
        let s = among_split x ys i in
        let split : IsLeast g mask a b ((a ∷ y ∷ s.0) ++ x ∷ s.1) = subst (λ t. IsLeast g mask a b (a ∷ y ∷ t)) s.2 k in
        let back : IsLeast g mask x b (x ∷ s.1) = back_least g mask a b x (a ∷ y ∷ s.0) s.1 valid split in
        let tail : IsLeast g mask x b (x ∷ xs) = tail_least g mask a b x xs valid h in
        let one : length xs ≡ length s.1 = least_lengths g mask x b x x xs s.1 tail back in
        let two : length (x ∷ xs) ≡ length (y ∷ ys) = least_lengths g mask a b a a (x ∷ xs) (y ∷ ys) h k in
        let three : length ys ≡ length (s.0 ++ x ∷ s.1) = ap length s.2 in
        omega (arith, one, two, three, length-append s.0 (x ∷ s.1))

    at_x : IsAmong x (a ∷ y ∷ ys) → ⊥
    at_x (inl e) = h.path.2.0 (inl (sym e))
    at_x (inr (inl e)) = d e
    at_x (inr (inr i)) = later i

-- no tie is least: two least paths are one
least_once : (g : Graph) (mask : ℕ) (a b : SystemId) (xs ys : List SystemId) → IsValid g → IsLeast g mask a b (a ∷ xs) → IsLeast g mask a b (a ∷ ys) → xs ≡ ys
least_once g mask a b [] [] valid h k = refl
least_once g mask a b [] (y ∷ ys) valid h k = let e = least_lengths g mask a b a a [] (y ∷ ys) h k in absurd (omega (arith, e))
least_once g mask a b (x ∷ xs) [] valid h k = let e = least_lengths g mask a b a a (x ∷ xs) [] h k in absurd (omega (arith, e))
least_once g mask a b (x ∷ xs) (y ∷ ys) valid h k =
    elim (eq_or_not x y) [
      | inr d ↦ absurd (part_at_first g mask a b x y xs ys valid h k d)
      | inl e ↦
          let k' : IsLeast g mask a b (a ∷ x ∷ ys) = subst (λ t. IsLeast g mask a b (a ∷ t ∷ ys)) (sym e) k in
          let same : xs ≡ ys = least_once g mask x b xs ys valid (tail_least g mask a b x xs valid h) (tail_least g mask a b x ys valid k') in
          cc
    ]

pub least_unique : (g : Graph) (mask : ℕ) (a b : SystemId) (p q : List SystemId) → IsValid g → IsLeast g mask a b p → IsLeast g mask a b q → p ≡ q
least_unique g mask a b [] q valid h k = absurd h.path
least_unique g mask a b (x ∷ xs) [] valid h k = absurd k.path
least_unique g mask a b (x ∷ xs) (y ∷ ys) valid h k =
    let h' : IsLeast g mask a b (a ∷ xs) = subst (λ t. IsLeast g mask a b (t ∷ xs)) h.path.0 h in
    let k' : IsLeast g mask a b (a ∷ ys) = subst (λ t. IsLeast g mask a b (t ∷ ys)) k.path.0 k in
    let same : xs ≡ ys = least_once g mask a b xs ys valid h' k' in
    let one : x ≡ a = h.path.0 in let two : y ≡ a = k.path.0 in cc

-- a least path is best
pub least_is_best : (g : Graph) (mask : ℕ) (a b : SystemId) (p : List SystemId) → IsValid g → IsLeast g mask a b p → IsBest g mask a b p
least_is_best g mask a b p valid h = record { path = h.path; below = λ q w d. at q w d (below_cases (key_of g mask p) (key_of g mask q)) }
  where
    at : (q : List SystemId) → IsPath g a b q → q ≢ p → IsBelow (key_of g mask p) (key_of g mask q) ⊎ ((key_of g mask p ≡ key_of g mask q) ⊎ IsBelow (key_of g mask q) (key_of g mask p)) → IsBelow (key_of g mask p) (key_of g mask q)
    at q w d (inl l) = l
    at q w d (inr (inl e)) =
        let k : IsLeast g mask a b q = record { path = w; least = λ r v m. h.least r v (subst (λ t. IsBelow (key_of g mask r) t) (sym e) m) } in
        absurd (d (least_unique g mask a b q p valid k h))
    at q w d (inr (inr m)) = absurd (h.least q w m)

-- and a best path is least
pub best_is_least : (g : Graph) (mask : ℕ) (a b : SystemId) (p : List SystemId) → IsBest g mask a b p → IsLeast g mask a b p
best_is_least g mask a b p h = record { path = h.path; least = λ q w m. not_below_both (key_of g mask q) (key_of g mask p) m (h.below q w (other q m)) }
  where
    other : (q : List SystemId) → IsBelow (key_of g mask q) (key_of g mask p) → q ≢ p
    other q m e = not_below_itself (key_of g mask p) (subst (λ t. IsBelow (key_of g mask t) (key_of g mask p)) e m)

pub lists_eq_or_not : (p q : List SystemId) → (p ≡ q) ⊎ (p ≢ q)
lists_eq_or_not [] [] = inl refl
lists_eq_or_not [] (y ∷ q) = inr (λ e. cc)
lists_eq_or_not (x ∷ p) [] = inr (λ e. cc)
lists_eq_or_not (x ∷ p) (y ∷ q) = both_at (eq_or_not x y) (lists_eq_or_not p q)
  where
    both_at : (x ≡ y) ⊎ (x ≢ y) → (p ≡ q) ⊎ (p ≢ q) → (x ∷ p ≡ y ∷ q) ⊎ (x ∷ p ≢ y ∷ q)
    both_at (inl e) (inl f) = inl (cc)
    both_at (inl e) (inr n) = inr (λ t. n (cc))
    both_at (inr n) f = inr (λ t. n (cc))

pub best_unique : (g : Graph) (mask : ℕ) (a b : SystemId) (p q : List SystemId) → IsBest g mask a b p → IsBest g mask a b q → p ≡ q
best_unique g mask a b p q h k =
    elim (lists_eq_or_not p q) [
      | inl e ↦ e
      | inr d ↦ absurd (not_below_both (key_of g mask p) (key_of g mask q) (h.below q k.path (λ e. d (sym e))) (k.below p h.path d))
    ]

-- the part of a best path from a bridge on it is best
pub best_back : (g : Graph) (mask : ℕ) (a b x : SystemId) (l r : List SystemId) → IsValid g → IsBest g mask a b (l ++ x ∷ r) → IsBest g mask x b (x ∷ r)
best_back g mask a b x l r valid h =
    least_is_best g mask x b (x ∷ r) valid (back_least g mask a b x l r valid (best_is_least g mask a b (l ++ x ∷ r) h))

-- a best path is best in reverse
pub best_reverse : (g : Graph) (mask : ℕ) (a b : SystemId) (p : List SystemId) → IsBest g mask a b p → IsBest g mask b a (reverse p)
best_reverse g mask a b p h = record { path = path_reverse g a b p h.path; below = λ q w d. at q w d }
  where
    at : (q : List SystemId) → IsPath g b a q → q ≢ reverse p → IsBelow (key_of g mask (reverse p)) (key_of g mask q)
    at q w d =
        let back : IsPath g a b (reverse q) = path_reverse g b a q w in
        let other : reverse q ≢ p = λ e. d (sym (reverse-reverse q) ∙ ap reverse e) in
        let below : IsBelow (key_of g mask p) (key_of g mask (reverse q)) = h.below (reverse q) back other in
        let left : key_of g mask (reverse p) ≡ key_of g mask p = key_of-reverse g mask a b p h.path in
        let right : key_of g mask (reverse q) ≡ key_of g mask q = key_of-reverse g mask b a q w in
        subst (λ t. IsBelow t (key_of g mask q)) (sym left) (subst (λ t. IsBelow (key_of g mask p) t) right below)

reverse-middle : (l r : List SystemId) (x : SystemId) → reverse (l ++ x ∷ r) ≡ reverse r ++ x ∷ reverse l
reverse-middle l r x =
    reverse-append l (x ∷ r) ∙ (ap (λ t. t ++ reverse l) (reverse-cons x r) ∙ append_assoc (reverse r) (x ∷ []) (reverse l))

reverse-front : (l : List SystemId) (x : SystemId) → reverse (x ∷ reverse l) ≡ l ++ x ∷ []
reverse-front l x = reverse-cons x (reverse l) ∙ ap (λ t. t ++ x ∷ []) (reverse-reverse l)

-- the part of a best path up to a bridge on it is best
pub best_front : (g : Graph) (mask : ℕ) (a b x : SystemId) (l r : List SystemId) → IsValid g → IsBest g mask a b (l ++ x ∷ r) → IsBest g mask a x (l ++ x ∷ [])
best_front g mask a b x l r valid h =
    let turned : IsBest g mask b a (reverse r ++ x ∷ reverse l) = subst (λ t. IsBest g mask b a t) (reverse-middle l r x) (best_reverse g mask a b (l ++ x ∷ r) h) in
    let part : IsBest g mask x a (x ∷ reverse l) = best_back g mask b a x (reverse r) (reverse l) valid turned in
    subst (λ t. IsBest g mask a x t) (reverse-front l x) (best_reverse g mask x a (x ∷ reverse l) part)
