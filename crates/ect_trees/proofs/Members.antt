-- Members of lists: of an ascending list, of a map, a filter, a flat map.
use Rattle.std.proofs.Common.{◌≡◌, ℕ, zero, suc, ◌<◌, Bool, true, false, true≢false, ◌⊎◌, inl, inr, List, [], ◌∷◌, ◌++◌, length, map, filter, flat_map, Contains, get_or, if◌then◌else◌, refl, sym, ap, ◌∙◌, subst, arith, is_gt}
use Rattle.ect_trees.specs.Key.{id_cmp, inserted, sorted_ids}

-- x is an element of the list
abbrev pub Has : {X : Type 0} → X → List X → Type 0
Has x [] = ⊥
Has x (y ∷ ys) = (x ≡ y) ⊎ Has x ys

pub has_left : {X : Type 0} (x : X) (xs ys : List X) → Has x xs → Has x (xs ++ ys)
has_left x [] ys h = absurd h
has_left x (z ∷ xs) ys (inl e) = inl e
has_left x (z ∷ xs) ys (inr h) = inr (has_left x xs ys h)

pub has_right : {X : Type 0} (x : X) (xs ys : List X) → Has x ys → Has x (xs ++ ys)
has_right x [] ys h = h
has_right x (z ∷ xs) ys h = inr (has_right x xs ys h)

pub has_map : {X Y : Type 0} (f : X → Y) (x : X) (xs : List X) → Has x xs → Has (f x) (map f xs)
has_map f x [] h = absurd h
has_map f x (z ∷ xs) (inl e) = inl (ap f e)
has_map f x (z ∷ xs) (inr h) = inr (has_map f x xs h)

pub has_flat_map : {X Y : Type 0} (f : X → List Y) (x : X) (y : Y) (xs : List X) → Has x xs → Has y (f x) → Has y (flat_map f xs)
has_flat_map f x y [] h k = absurd h
has_flat_map f x y (z ∷ xs) (inl e) k = has_left y (f z) (flat_map f xs) (subst (λ t. Has y (f t)) e k)
has_flat_map f x y (z ∷ xs) (inr h) k = has_right y (f z) (flat_map f xs) (has_flat_map f x y xs h k)

pub has_filter : {X : Type 0} (p : X → Bool) (x : X) (xs : List X) → Has x xs → p x ≡ true → Has x (filter p xs)
has_filter p x [] h e = absurd h
has_filter p x (z ∷ xs) h e = has_filter_at (p z) refl h (λ i. has_filter p x xs i e)
  where
    has_filter_at : (b : Bool) → p z ≡ b → Has x (z ∷ xs) → (Has x xs → Has x (filter p xs)) → Has x (if b then z ∷ filter p xs else filter p xs)
    has_filter_at true f (inl i) r = inl i
    has_filter_at true f (inr i) r = inr (r i)
    has_filter_at false f (inl i) r = absurd (true≢false (sym e ∙ (ap p i ∙ f)))
    has_filter_at false f (inr i) r = r i

pub filter_has : {X : Type 0} (p : X → Bool) (x : X) (xs : List X) → Has x (filter p xs) → p x ≡ true
filter_has p x [] h = absurd h
filter_has p x (z ∷ xs) h = filter_has_at (p z) refl h (filter_has p x xs)
  where
    filter_has_at : (b : Bool) → p z ≡ b → Has x (if b then z ∷ filter p xs else filter p xs) → (Has x (filter p xs) → p x ≡ true) → p x ≡ true
    filter_has_at true f (inl i) r = ap p i ∙ f
    filter_has_at true f (inr i) r = r i
    filter_has_at false f i r = r i

-- placing keeps the members
pub inserted_has : (z x : List ℕ) (ys : List (List ℕ)) → Has z (x ∷ ys) → Has z (inserted x ys)
inserted_has z x [] h = h
inserted_has z x (y ∷ ys) h = inserted_has_at (is_gt (id_cmp x y)) h (inserted_has z x ys)
  where
    inserted_has_at : (b : Bool) → Has z (x ∷ y ∷ ys) → (Has z (x ∷ ys) → Has z (inserted x ys)) → Has z (if b then y ∷ inserted x ys else x ∷ y ∷ ys)
    inserted_has_at true (inl e) r = inr (r (inl e))
    inserted_has_at true (inr (inl e)) r = inl e
    inserted_has_at true (inr (inr i)) r = inr (r (inr i))
    inserted_has_at false i r = i

pub has_inserted : (z x : List ℕ) (ys : List (List ℕ)) → Has z (inserted x ys) → Has z (x ∷ ys)
has_inserted z x [] h = h
has_inserted z x (y ∷ ys) h = has_inserted_at (is_gt (id_cmp x y)) h (has_inserted z x ys)
  where
    has_inserted_at : (b : Bool) → Has z (if b then y ∷ inserted x ys else x ∷ y ∷ ys) → (Has z (inserted x ys) → Has z (x ∷ ys)) → Has z (x ∷ y ∷ ys)
    has_inserted_at true (inl e) r = inr (inl e)
    has_inserted_at true (inr i) r = behind (r i)
      where
        behind : Has z (x ∷ ys) → Has z (x ∷ y ∷ ys)
        behind (inl e) = inl e
        behind (inr j) = inr (inr j)
    has_inserted_at false i r = i

pub sorted_has : (z : List ℕ) (xs : List (List ℕ)) → Has z xs → Has z (sorted_ids xs)
sorted_has z [] h = h
sorted_has z (x ∷ xs) (inl e) = inserted_has z x (sorted_ids xs) (inl e)
sorted_has z (x ∷ xs) (inr h) = inserted_has z x (sorted_ids xs) (inr (sorted_has z xs h))

pub has_sorted : (z : List ℕ) (xs : List (List ℕ)) → Has z (sorted_ids xs) → Has z xs
has_sorted z [] h = h
has_sorted z (x ∷ xs) h = has_sorted_at (has_inserted z x (sorted_ids xs) h) (has_sorted z xs)
  where
    has_sorted_at : Has z (x ∷ sorted_ids xs) → (Has z (sorted_ids xs) → Has z xs) → Has z (x ∷ xs)
    has_sorted_at (inl e) r = inl e
    has_sorted_at (inr i) r = inr (r i)

-- what a list contains it has, and the other way round
has_at : {X : Type 0} (xs : List X) (k : ℕ) (x : X) → k < length xs → get_or xs k x ≡ x → Has x xs
has_at [] k x l e = absurd (omega (arith, l))
has_at (y ∷ ys) zero x l e = inl (sym e)
has_at (y ∷ ys) (suc k) x l e = inr (has_at ys k x (omega (arith, l)) e)

pub has_from_contains : {X : Type 0} (xs : List X) (x : X) → Contains xs x → Has x xs
has_from_contains xs x c = has_at xs c.0 x c.1 c.2

pub contains_from_has : {X : Type 0} (xs : List X) (x : X) → Has x xs → Contains xs x
contains_from_has [] x h = absurd h
contains_from_has (y ∷ ys) x (inl e) = (0, omega arith, sym e)
contains_from_has (y ∷ ys) x (inr h) = let r = contains_from_has ys x h in (suc r.0, omega (arith, r.1), r.2)
