-- What a test of each item of a list says of the item at each place.
use Rattle.std.proofs.Common.{◌≡◌, ℕ, zero, suc, Bool, true, false, not, ◌&&◌, ◌||◌, List, [], ◌∷◌, length, ◌==◌, Some, slice_get, refl, ap, subst, arith}
use Rattle.std.specs.List.{list_all}
use Rattle.std.proofs.lemmas.Bool.{and_parts, eqb-true}
use Rattle.std.proofs.lemmas.Option.{same_Some}

pub both_true : (b c : Bool) → b ≡ true → c ≡ true → (b && c) ≡ true
both_true b c x y = λ i. x i && y i

-- where the first holds, the second does
pub by_first : (b c : Bool) → b ≡ true → (not b || c) ≡ true → c ≡ true
by_first true c b h = h
by_first false c b h = cc

pub from_first : (b c : Bool) → (b ≡ true → c ≡ true) → (not b || c) ≡ true
from_first true c f = f refl
from_first false c f = refl

pub each_of : {X : Type 0} (p : X → Bool) (xs : List X) → list_all p xs ≡ true → (i : ℕ) (x : X) → slice_get xs i ≡ Some x → p x ≡ true
each_of p [] all i x at = cc
each_of p (y ∷ ys) all zero x at = subst (λ z. p z ≡ true) (same_Some y x at) (and_parts (p y) (list_all p ys) all).0
each_of p (y ∷ ys) all (suc i) x at = each_of p ys (and_parts (p y) (list_all p ys) all).1 i x at

pub all_of : {X : Type 0} (p : X → Bool) (xs : List X) → ((i : ℕ) (x : X) → slice_get xs i ≡ Some x → p x ≡ true) → list_all p xs ≡ true
all_of p [] f = refl
all_of p (y ∷ ys) f = both_true (p y) (list_all p ys) (f zero y refl) (all_of p ys (λ i x at. f (suc i) x at))

pub nil_of : {X : Type 0} (xs : List X) → (length xs == 0) ≡ true → xs ≡ []
nil_of [] h = refl
nil_of (x ∷ xs) h = let e = eqb-true (length (x ∷ xs)) 0 h in absurd (omega (arith, e))

pub of_nil : {X : Type 0} (xs : List X) → xs ≡ [] → (length xs == 0) ≡ true
of_nil xs e = ap (λ (l : List _). length l == 0) e
