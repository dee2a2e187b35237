-- System ids in lists: equality is decided, a member splits its list, and distinct members of a list are no more than it has.
use Rattle.std.proofs.Common.{◌≡◌, ◌≤◌, Bool, true, false, true≢false, ◌≢◌, ◌⊎◌, inl, inr, List, [], ◌∷◌, ◌++◌, length, reverse, refl, sym, ap, ◌∙◌, subst, arith, length-append}
use Rattle.std.proofs.lemmas.List.{reverse-append}
use Rattle.std.proofs.lemmas.Slice.Eq.{bytes_eq-Decides}
use Rattle.spb_types.specs.Address.{same_system}
use Rattle.spb_types.specs.Graph.{IsAmong, IsDistinct}
use Rattle.spb_types.specs.declared.address.SystemId.{SystemId}

-- system ids of the same bytes are equal
pub same_is : (x y : SystemId) → same_system x y ≡ true → x ≡ y
same_is x y h = let e : x.mac.bytes ≡ y.mac.bytes = (bytes_eq-Decides _ _).0 h in λ i. record { mac = record { bytes = e i } }

pub same_self : (x : SystemId) → same_system x x ≡ true
same_self x = (bytes_eq-Decides x.mac.bytes x.mac.bytes).1 refl

eq_or_not_at : (b : Bool) (x y : SystemId) → same_system x y ≡ b → (x ≡ y) ⊎ (x ≢ y)
eq_or_not_at true x y h = inl (same_is x y h)
eq_or_not_at false x y h = inr (λ e. true≢false (sym (same_self x) ∙ (ap (λ z. same_system x z) e ∙ h)))

pub eq_or_not : (x y : SystemId) → (x ≡ y) ⊎ (x ≢ y)
eq_or_not x y = eq_or_not_at (same_system x y) x y refl

pub among_or_not : (x : SystemId) (ys : List SystemId) → IsAmong x ys ⊎ (IsAmong x ys → ⊥)
among_or_not x [] = inr (λ h. h)
among_or_not x (y ∷ ys) =
    elim (eq_or_not x y) [
      | inl e ↦ inl (inl e)
      | inr d ↦ elim (among_or_not x ys) [ inl i ↦ inl (inr i) | inr n ↦ inr (λ h. elim h [ inl e ↦ d e | inr i ↦ n i ]) ]
    ]

pub among_left : (x : SystemId) (xs ys : List SystemId) → IsAmong x xs → IsAmong x (xs ++ ys)
among_left x [] ys h = absurd h
among_left x (z ∷ xs) ys (inl e) = inl e
among_left x (z ∷ xs) ys (inr h) = inr (among_left x xs ys h)

pub among_right : (x : SystemId) (xs ys : List SystemId) → IsAmong x ys → IsAmong x (xs ++ ys)
among_right x [] ys h = h
among_right x (z ∷ xs) ys h = inr (among_right x xs ys h)

pub among_parts : (x : SystemId) (xs ys : List SystemId) → IsAmong x (xs ++ ys) → IsAmong x xs ⊎ IsAmong x ys
among_parts x [] ys h = inr h
among_parts x (z ∷ xs) ys (inl e) = inl (inl e)
among_parts x (z ∷ xs) ys (inr h) = elim (among_parts x xs ys h) [ inl i ↦ inl (inr i) | inr i ↦ inr i ]

-- a list with a member is what stands before it, the member, and what stands behind it
pub among_split : (x : SystemId) (ys : List SystemId) → IsAmong x ys → (l : List SystemId) × (r : List SystemId) × (ys ≡ l ++ x ∷ r)
among_split x [] h = absurd h
among_split x (y ∷ ys) (inl e) = ([], ys, ap (λ z. z ∷ ys) (sym e))
among_split x (y ∷ ys) (inr h) = let s = among_split x ys h in (y ∷ s.0, s.1, ap (λ z. y ∷ z) s.2)

-- a list without repeats whose members are all of ys is at most as long as ys
pub length-within : (xs ys : List SystemId) → IsDistinct xs → ((x : SystemId) → IsAmong x xs → IsAmong x ys) → length xs ≤ length ys
length-within [] ys d w = omega arith
length-within (x ∷ xs) ys d w =
    let s = among_split x ys (w x (inl refl)) in
    let others = λ (z : SystemId) (h : IsAmong z xs). among_without x z s.0 s.1 xs d.0 h (subst (λ t. IsAmong z t) s.2 (w z (inr h))) in
    let shorter : length xs ≤ length (s.0 ++ s.1) = length-within xs (s.0 ++ s.1) d.1 others in
    let whole : length ys ≡ length (s.0 ++ x ∷ s.1) = ap length s.2 in
    omega (arith, shorter, whole, length-append s.0 s.1, length-append s.0 (x ∷ s.1))
  where
    among_without : (x z : SystemId) (l r xs : List SystemId) → (IsAmong x xs → ⊥) → IsAmong z xs → IsAmong z (l ++ x ∷ r) → IsAmong z (l ++ r)
    among_without x z l r xs d h i =
        elim (among_parts z l (x ∷ r) i) [
          | inl j ↦ among_left z l r j
          | inr (inl e) ↦ absurd (d (subst (λ t. IsAmong t xs) e h))
          | inr (inr j) ↦ among_right z l r j
        ]

pub distinct_snoc : (xs : List SystemId) (y : SystemId) → IsDistinct xs → (IsAmong y xs → ⊥) → IsDistinct (xs ++ y ∷ [])
distinct_snoc [] y d n = ((λ h. h), tt)
distinct_snoc (x ∷ xs) y d n =
    ((λ h. elim (among_parts x xs (y ∷ []) h) [ inl i ↦ d.0 i | inr (inl e) ↦ n (inl (sym e)) | inr (inr i) ↦ i ]), distinct_snoc xs y d.1 (λ i. n (inr i)))

pub distinct_back : (l r : List SystemId) → IsDistinct (l ++ r) → IsDistinct r
distinct_back [] r d = d
distinct_back (x ∷ l) r d = distinct_back l r d.1

pub reverse-cons : (x : SystemId) (xs : List SystemId) → reverse (x ∷ xs) ≡ reverse xs ++ x ∷ []
reverse-cons x xs = reverse-append (x ∷ []) xs

pub among_reverse : (x : SystemId) (ys : List SystemId) → IsAmong x (reverse ys) → IsAmong x ys
among_reverse x [] h = h
among_reverse x (y ∷ ys) h =
    elim (among_parts x (reverse ys) (y ∷ []) (subst (λ t. IsAmong x t) (reverse-cons y ys) h)) [
      | inl i ↦ inr (among_reverse x ys i)
      | inr (inl e) ↦ inl e
      | inr (inr i) ↦ absurd i
    ]

pub distinct_reverse : (xs : List SystemId) → IsDistinct xs → IsDistinct (reverse xs)
distinct_reverse [] d = tt
distinct_reverse (x ∷ xs) d =
    subst (λ t. IsDistinct t) (sym (reverse-cons x xs)) (distinct_snoc (reverse xs) x (distinct_reverse xs d.1) (λ h. d.0 (among_reverse x xs h)))
