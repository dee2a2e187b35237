-- The rows of what a bridge holds, one after another.
use Rattle.std.proofs.Common.{◌≡◌, ℕ, zero, suc, ◌<◌, List, [], ◌∷◌, ◌++◌, length, map, take, Some, None, slice_get, refl, ap, arith}

-- one item more of a list, seen through `f`
pub take-next : {X Y : Type 0} (f : X → Y) (xs : List X) (n : ℕ) (x : X) → slice_get xs n ≡ Some x → take (suc n) (map f xs) ≡ take n (map f xs) ++ f x ∷ []
take-next f [] n x at = absurd cc
take-next f (y ∷ ys) zero x at = let is : y ≡ x = cc in ap (λ z. f z ∷ []) is
take-next f (y ∷ ys) (suc n) x at = ap (λ l. f y ∷ l) (take-next f ys n x at)

-- no item is left
pub take-past : {X Y : Type 0} (f : X → Y) (xs : List X) (n : ℕ) → slice_get xs n ≡ None → take n (map f xs) ≡ map f xs
take-past f [] zero at = refl
take-past f [] (suc n) at = refl
take-past f (y ∷ ys) zero at = absurd cc
take-past f (y ∷ ys) (suc n) at = ap (λ l. f y ∷ l) (take-past f ys n at)

pub within : {X Y : Type 0} (f : X → Y) (xs : List X) (n : ℕ) (x : X) → slice_get xs n ≡ Some x → n < length (map f xs)
within f [] n x at = absurd cc
within f (y ∷ ys) zero x at = omega arith
within f (y ∷ ys) (suc n) x at = omega (arith, within f ys n x at)
