use Rattle.std.proofs.Common.{◌≡◌, ℕ, ◌+◌, Bool, true, false, true≢false, not, ◌&&◌, ◌||◌, List, [], ◌∷◌, ◌++◌, length, refl, sym, ap, arith}
use Rattle.std.specs.List.{AllByRecursion, list_any}
use Rattle.spb_world.specs.World.{things_of}

pub All-map : {X : Type 0} (P Q : X → Type 0) (xs : List X) → ((x : X) → P x → Q x) → AllByRecursion P xs → AllByRecursion Q xs
All-map P Q [] f h = tt
All-map P Q (x ∷ xs) f h = (f x h.0, All-map P Q xs f h.1)

pub All-push : {X : Type 0} (P : X → Type 0) (xs : List X) (x : X) → AllByRecursion P xs → P x → AllByRecursion P (xs ++ x ∷ [])
All-push P [] x h p = (p, tt)
All-push P (y ∷ ys) x h p = (h.0, All-push P ys x h.1 p)

pub or-left : (b c : Bool) → (b || c) ≡ false → b ≡ false
or-left true c h = h
or-left false c h = refl

pub or-right : (b c : Bool) → (b || c) ≡ false → c ≡ false
or-right true c h = absurd (true≢false h)
or-right false c h = h

-- where no item passes the test, each fails it
pub All-none : {X : Type 0} (p : X → Bool) (xs : List X) → list_any p xs ≡ false → AllByRecursion (λ x. p x ≡ false) xs
All-none p [] h = tt
All-none p (x ∷ xs) h = (or-left (p x) (list_any p xs) h, All-none p xs (or-right (p x) (list_any p xs) h))

pub and-left : (b c : Bool) → (b && c) ≡ true → b ≡ true
and-left true c h = refl
and-left false c h = h

pub and-right : (b c : Bool) → (b && c) ≡ true → c ≡ true
and-right true c h = h
and-right false c h = cc

pub not-true : (b : Bool) → not b ≡ true → b ≡ false
not-true true h = sym h
not-true false h = refl

pub things_of-push : {T : Type 0} (xs : List (List ℕ × T)) (name : List ℕ) (x : T) → things_of (xs ++ (name, x) ∷ []) ≡ things_of xs ++ x ∷ []
things_of-push [] name x = refl
things_of-push (y ∷ ys) name x = ap (λ l. y.1 ∷ l) (things_of-push ys name x)

pub length-push : {X : Type 0} (xs : List X) (x : X) → length (xs ++ x ∷ []) ≡ length xs + 1
length-push [] x = refl
length-push (y ∷ ys) x = grind (arith, length-push ys x)

pub length-things : {T : Type 0} (xs : List (List ℕ × T)) → length (things_of xs) ≡ length xs
length-things [] = refl
length-things (x ∷ xs) = grind (arith, length-things xs)

-- where none passes one of three tests, none passes any of them
pub none_of : {A : Type 0} (p q r : A → Bool) (xs : List A) → list_any (λ x. p x || (q x || r x)) xs ≡ false → (list_any p xs ≡ false) × (list_any q xs ≡ false) × (list_any r xs ≡ false)
none_of p q r [] none = (refl, refl, refl)
none_of p q r (x ∷ xs) none = by (p x) (q x) (r x) (none_of p q r xs) none
  where
    by : (a b c : Bool) → (list_any (λ y. p y || (q y || r y)) xs ≡ false → (list_any p xs ≡ false) × (list_any q xs ≡ false) × (list_any r xs ≡ false))
        → ((a || (b || c)) || list_any (λ y. p y || (q y || r y)) xs) ≡ false
        → ((a || list_any p xs) ≡ false) × ((b || list_any q xs) ≡ false) × ((c || list_any r xs) ≡ false)
    by true b c rest e = absurd cc
    by false true c rest e = absurd cc
    by false false true rest e = absurd cc
    by false false false rest e = rest e
