-- The first bridge that fails, and what it is that none does.
use Rattle.std.proofs.Common.{◌≡◌, ℕ, zero, suc, ◌+◌, ◌≤◌, List, [], ◌∷◌, length, drop, Bool, true, false, Some, None, cond, refl, ap, ◌∙◌, arith}
use Rattle.std.proofs.lemmas.Option.{none-some, same_Some}
use Rattle.std.specs.List.{AllByRecursion, position_from, slice_get}
use Rattle.spb_types.specs.declared.address.SystemId.{SystemId}

at_drop : (xs : List SystemId) (i : ℕ) (x : SystemId) → slice_get xs i ≡ Some x → drop i xs ≡ x ∷ drop (suc i) xs
at_drop [] i x h = absurd (none-some x h)
at_drop (y ∷ ys) zero x h = ap (λ t. t ∷ ys) (same_Some y x h)
at_drop (y ∷ ys) (suc i) x h = at_drop ys i x h

past_all : (xs : List SystemId) (i : ℕ) → length xs ≤ i → drop i xs ≡ []
past_all [] zero h = refl
past_all [] (suc i) h = refl
past_all (y ∷ ys) zero h = absurd (omega (arith, h))
past_all (y ∷ ys) (suc i) h = past_all ys i (omega (arith, h))

module _ (f : SystemId → Bool) (xs : List SystemId) where
  -- none of the first i passes the test
  abbrev pub LooksOn : ℕ → Type 0
  LooksOn i = position_from f 1 xs ≡ position_from f (i + 1) (drop i xs)

  pub looks_from_start : LooksOn 0
  looks_from_start = refl

  pub looks_on : (i : ℕ) (x : SystemId) → LooksOn i → slice_get xs i ≡ Some x → f x ≡ false → LooksOn (i + 1)
  looks_on i x so at not = so ∙ (ap (position_from f (i + 1)) (at_drop xs i x at) ∙ (ap (λ t. cond t (Some (i + 1)) (position_from f (i + 1 + 1) (drop (suc i) xs))) not ∙ ap (λ k. position_from f (i + 1 + 1) (drop k xs)) one))
    where
      one : suc i ≡ i + 1
      one = omega arith

  pub looked_at : (i : ℕ) (x : SystemId) → LooksOn i → slice_get xs i ≡ Some x → f x ≡ true → position_from f 1 xs ≡ Some (i + 1)
  looked_at i x so at passes = so ∙ (ap (position_from f (i + 1)) (at_drop xs i x at) ∙ ap (λ t. cond t (Some (i + 1)) (position_from f (i + 1 + 1) (drop (suc i) xs))) passes)

  pub looked_at_all : (i : ℕ) → LooksOn i → length xs ≤ i → position_from f 1 xs ≡ None
  looked_at_all i so all = so ∙ ap (position_from f (i + 1)) (past_all xs i all)

pub none_passes : (f : SystemId → Bool) (k : ℕ) (xs : List SystemId) → position_from f k xs ≡ None → AllByRecursion (λ x. f x ≡ false) xs
none_passes f k [] h = tt
none_passes f k (x ∷ xs) h = by (f x) refl h (none_passes f (k + 1) xs)
  where
    some-none : (i : ℕ) → Some i ≡ None → ⊥
    some-none i e = absurd cc

    by : (b : Bool) → f x ≡ b → cond b (Some k) (position_from f (k + 1) xs) ≡ None → (position_from f (k + 1) xs ≡ None → AllByRecursion (λ y. f y ≡ false) xs) → AllByRecursion (λ y. f y ≡ false) (x ∷ xs)
    by true e i later = absurd (some-none k i)
    by false e i later = (e, later i)

pub none_is_found : (f : SystemId → Bool) (k : ℕ) (xs : List SystemId) → AllByRecursion (λ x. f x ≡ false) xs → position_from f k xs ≡ None
none_is_found f k [] all = refl
none_is_found f k (x ∷ xs) all = ap (λ t. cond t (Some k) (position_from f (k + 1) xs)) all.0 ∙ none_is_found f (k + 1) xs all.1
