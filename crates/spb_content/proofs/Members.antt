-- The elements of lists.
use Rattle.std.proofs.Common.{◌≡◌, zero, suc, ◌⊎◌, inl, inr, Bool, true, false, true≢false, List, [], ◌∷◌, ◌++◌, map, filter, flat_map, cond, refl, sym, ap, ◌∙◌, subst, arith}
use Rattle.std.specs.List.{AllByRecursion, Contains}

-- x is an element of the list
abbrev pub Has : {X : Type 0} → X → List X → Type 0
Has x [] = ⊥
Has x (y ∷ ys) = (x ≡ y) ⊎ Has x ys

pub has_from_contains : {X : Type 0} (x : X) (xs : List X) → Contains xs x → Has x xs
has_from_contains x [] (k, h, e) = absurd (omega (arith, h))
has_from_contains x (y ∷ ys) (zero, h, e) = inl (sym e)
has_from_contains x (y ∷ ys) (suc k, h, e) = inr (has_from_contains x ys (k, omega (arith, h), e))

pub contains_from_has : {X : Type 0} (x : X) (xs : List X) → Has x xs → Contains xs x
contains_from_has x [] h = absurd h
contains_from_has x (y ∷ ys) (inl e) = (zero, omega arith, sym e)
contains_from_has x (y ∷ ys) (inr h) = let c = contains_from_has x ys h in (suc c.0, omega (arith, c.1), c.2)

pub all_has : {X : Type 0} (P : X → Type 0) (x : X) (xs : List X) → AllByRecursion P xs → Has x xs → P x
all_has P x [] all h = absurd h
all_has P x (y ∷ ys) all (inl e) = subst P (sym e) all.0
all_has P x (y ∷ ys) all (inr h) = all_has P x ys all.1 h

pub has_all : {X : Type 0} (P : X → Type 0) (xs : List X) → ((x : X) → Has x xs → P x) → AllByRecursion P xs
has_all P [] each = tt
has_all P (x ∷ xs) each = (each x (inl refl), has_all P xs (λ y h. each y (inr h)))

pub weaker : {X : Type 0} (P Q : X → Type 0) (xs : List X) → ((x : X) → P x → Q x) → AllByRecursion P xs → AllByRecursion Q xs
weaker P Q [] f all = tt
weaker P Q (x ∷ xs) f all = (f x all.0, weaker P Q xs f all.1)

pub has_left : {X : Type 0} (x : X) (xs ys : List X) → Has x xs → Has x (xs ++ ys)
has_left x [] ys h = absurd h
has_left x (z ∷ xs) ys (inl e) = inl e
has_left x (z ∷ xs) ys (inr h) = inr (has_left x xs ys h)

pub has_right : {X : Type 0} (x : X) (xs ys : List X) → Has x ys → Has x (xs ++ ys)
has_right x [] ys h = h
has_right x (z ∷ xs) ys h = inr (has_right x xs ys h)

pub has_parts : {X : Type 0} (x : X) (xs ys : List X) → Has x (xs ++ ys) → Has x xs ⊎ Has x ys
has_parts x [] ys h = inr h
has_parts x (z ∷ xs) ys (inl e) = inl (inl e)
has_parts x (z ∷ xs) ys (inr h) = elim (has_parts x xs ys h) [ inl i ↦ inl (inr i) | inr i ↦ inr i ]

pub has_map : {X Y : Type 0} (f : X → Y) (x : X) (xs : List X) → Has x xs → Has (f x) (map f xs)
has_map f x [] h = absurd h
has_map f x (z ∷ xs) (inl e) = inl (ap f e)
has_map f x (z ∷ xs) (inr h) = inr (has_map f x xs h)

-- what stands in a map comes of an element
pub map_has : {X Y : Type 0} (f : X → Y) (y : Y) (xs : List X) → Has y (map f xs) → (x : X) × Has x xs × (y ≡ f x)
map_has f y [] h = absurd h
map_has f y (x ∷ xs) (inl e) = (x, inl refl, e)
map_has f y (x ∷ xs) (inr h) = let r = map_has f y xs h in (r.0, inr r.1, r.2)

-- a filter keeps what passes
pub has_filter : {X : Type 0} (p : X → Bool) (x : X) (xs : List X) → Has x xs → p x ≡ true → Has x (filter p xs)
has_filter p x [] h e = absurd h
has_filter p x (z ∷ xs) h e = at (p z) refl h (λ i. has_filter p x xs i e)
  where
    at : (b : Bool) → p z ≡ b → Has x (z ∷ xs) → (Has x xs → Has x (filter p xs)) → Has x (cond b (z ∷ filter p xs) (filter p xs))
    at true f (inl i) r = inl i
    at true f (inr i) r = inr (r i)
    at false f (inl i) r = absurd (true≢false (sym e ∙ (ap p i ∙ f)))
    at false f (inr i) r = r i

pub filter_has : {X : Type 0} (p : X → Bool) (x : X) (xs : List X) → Has x (filter p xs) → Has x xs × (p x ≡ true)
filter_has p x [] h = absurd h
filter_has p x (z ∷ xs) h = at (p z) refl h (filter_has p x xs)
  where
    at : (b : Bool) → p z ≡ b → Has x (cond b (z ∷ filter p xs) (filter p xs)) → (Has x (filter p xs) → Has x xs × (p x ≡ true)) → Has x (z ∷ xs) × (p x ≡ true)
    at true f (inl i) r = (inl i, ap p i ∙ f)
    at true f (inr i) r = let s = r i in (inr s.0, s.1)
    at false f i r = let s = r i in (inr s.0, s.1)

pub has_flat_map : {X Y : Type 0} (f : X → List Y) (x : X) (y : Y) (xs : List X) → Has x xs → Has y (f x) → Has y (flat_map f xs)
has_flat_map f x y [] h k = absurd h
has_flat_map f x y (z ∷ xs) (inl e) k = has_left y (f z) (flat_map f xs) (subst (λ t. Has y (f t)) e k)
has_flat_map f x y (z ∷ xs) (inr h) k = has_right y (f z) (flat_map f xs) (has_flat_map f x y xs h k)

pub flat_map_has : {X Y : Type 0} (f : X → List Y) (y : Y) (xs : List X) → Has y (flat_map f xs) → (x : X) × Has x xs × Has y (f x)
flat_map_has f y [] h = absurd h
flat_map_has f y (x ∷ xs) h =
    elim (has_parts y (f x) (flat_map f xs) h) [
      | inl i ↦ (x, inl refl, i)
      | inr i ↦ let r = flat_map_has f y xs i in (r.0, inr r.1, r.2)
    ]

pub all_append : {X : Type 0} (P : X → Type 0) (xs ys : List X) → AllByRecursion P xs → AllByRecursion P ys → AllByRecursion P (xs ++ ys)
all_append P [] ys all more = more
all_append P (x ∷ xs) ys all more = (all.0, all_append P xs ys all.1 more)
