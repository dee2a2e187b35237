-- Walks over a list, item by item, that end at the first that fails a test.
use Rattle.std.proofs.Common.{◌≡◌, ℕ, zero, suc, ◌+◌, Bool, true, false, ◌&&◌, List, [], ◌∷◌, drop, Some, None, slice_get, refl, ap, ◌∙◌, arith}
use Rattle.std.specs.List.{list_all}
use Rattle.std.proofs.lemmas.Option.{same_Some}

pub suc-on : (k : ℕ) → suc (k + 1) ≡ suc k + 1
suc-on k = omega arith

-- what is left from a place on: the item there, and what is left behind it
pub left_at : {X : Type 0} (xs : List X) (k : ℕ) (x : X) → slice_get xs k ≡ Some x → drop k xs ≡ x ∷ drop (k + 1) xs
left_at [] k x at = cc at
left_at (y ∷ ys) zero x at = ap (λ z. z ∷ ys) (same_Some y x at)
left_at (y ∷ ys) (suc k) x at = left_at ys k x at ∙ ap (λ m. x ∷ drop m (y ∷ ys)) (suc-on k)

pub left_past : {X : Type 0} (xs : List X) (k : ℕ) → slice_get xs k ≡ None → drop k xs ≡ []
left_past [] zero past = refl
left_past [] (suc k) past = refl
left_past (y ∷ ys) zero past = cc past
left_past (y ∷ ys) (suc k) past = left_past ys k past

pub failed : {X : Type 0} (p : X → Bool) (xs : List X) (k : ℕ) (x : X) → slice_get xs k ≡ Some x → p x ≡ false → list_all p (drop k xs) ≡ false
failed p xs k x at h = ap (list_all p) (left_at xs k x at) ∙ ap (λ b. b && list_all p (drop (k + 1) xs)) h

pub passed : {X : Type 0} (p : X → Bool) (xs : List X) (k : ℕ) (x : X) → slice_get xs k ≡ Some x → p x ≡ true → list_all p (drop k xs) ≡ list_all p (drop (k + 1) xs)
passed p xs k x at h = ap (list_all p) (left_at xs k x at) ∙ ap (λ b. b && list_all p (drop (k + 1) xs)) h

pub all_passed : {X : Type 0} (p : X → Bool) (xs : List X) (k : ℕ) → slice_get xs k ≡ None → list_all p (drop k xs) ≡ true
all_passed p xs k past = ap (list_all p) (left_past xs k past)

pub from_place : {X : Type 0} (p : X → Bool) (xs : List X) (k n : ℕ) → k ≡ n → list_all p (drop k xs) ≡ list_all p (drop n xs)
from_place p xs k n is = ap (λ m. list_all p (drop m xs)) is
