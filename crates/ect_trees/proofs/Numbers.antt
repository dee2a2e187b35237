-- Masked ids compare as the numbers that their bytes spell.
use Rattle.std.proofs.Common.{◌≡◌, ℕ, ◌+◌, ◌*◌, ◌<◌, List, [], ◌∷◌, length, Ordering, Less, Equal, Greater, nat_cmp, refl, sym, ap, ◌∙◌, arith}
use Rattle.std.specs.List.{AllByRecursion}
use Rattle.std.specs.Int.{w64, from_be_bytes}
use Rattle.std.specs.Ordering.{MatchOrdering, ordering_then}
use Rattle.std.specs.Cmp.Lexicographic.{slice_cmp}
use Rattle.std.proofs.lemmas.Cmp.{ranked}
use Rattle.ect_trees.specs.Key.{id_cmp, HasEightBytes}
use Rattle.ect_trees.proofs.KeyOrder.{cmp_from}

-- bytes as the digits of a number, behind those of another
abbrev digits : ℕ → List ℕ → ℕ
digits n [] = n
digits n (b ∷ bs) = digits (n * 256 + b) bs

pub then_equal : (o : Ordering) → ordering_then o Equal ≡ o
then_equal Less = refl
then_equal Equal = refl
then_equal Greater = refl

then_then : (o r t : Ordering) → ordering_then (ordering_then o r) t ≡ ordering_then o (ordering_then r t)
then_then Less r t = refl
then_then Equal r t = refl
then_then Greater r t = refl

-- one digit more
digit_cmp : (p q x y : ℕ) → x < 256 → y < 256 → nat_cmp (p * 256 + x) (q * 256 + y) ≡ ordering_then (nat_cmp p q) (nat_cmp x y)
digit_cmp p q x y lx ly = by (nat_cmp p q) refl (ranked p q (nat_cmp p q) refl)
  where
    i : ℕ
    i = p * 256 + x

    j : ℕ
    j = q * 256 + y

    same : nat_cmp p q ≡ Equal → p ≡ q → nat_cmp i j ≡ nat_cmp x y
    same e h = cmp_from x y i j (nat_cmp x y) (nat_cmp i j) refl refl (ranked x y (nat_cmp x y) refl) (ranked i j (nat_cmp i j) refl) (λ k. omega (arith, h, k)) (λ k. omega (arith, h, k)) (λ k. omega (arith, h, k))

    apart : (p ≡ q → ⊥) → nat_cmp i j ≡ nat_cmp p q
    apart d = cmp_from p q i j (nat_cmp p q) (nat_cmp i j) refl refl (ranked p q (nat_cmp p q) refl) (ranked i j (nat_cmp i j) refl) (λ k. omega (arith, k, lx, ly)) (λ k. absurd (d k)) (λ k. omega (arith, k, lx, ly))

    by : (o : Ordering) → nat_cmp p q ≡ o → MatchOrdering o (p < q) (p ≡ q) (q < p) → nat_cmp i j ≡ ordering_then o (nat_cmp x y)
    by Less e h = apart (λ k. omega (arith, h, k)) ∙ e
    by Equal e h = same e h
    by Greater e h = apart (λ k. omega (arith, h, k)) ∙ e

digits_cmp : (xs ys : List ℕ) (p q : ℕ) → length xs ≡ length ys → AllByRecursion (λ b. b < 256) xs → AllByRecursion (λ b. b < 256) ys → nat_cmp (digits p xs) (digits q ys) ≡ ordering_then (nat_cmp p q) (slice_cmp nat_cmp xs ys)
digits_cmp [] [] p q len sx sy = sym (then_equal (nat_cmp p q))
digits_cmp [] (y ∷ ys) p q len sx sy = absurd (omega (arith, len))
digits_cmp (x ∷ xs) [] p q len sx sy = absurd (omega (arith, len))
digits_cmp (x ∷ xs) (y ∷ ys) p q len sx sy =
    digits_cmp xs ys (p * 256 + x) (q * 256 + y) (omega (arith, len)) sx.1 sy.1
    ∙ (ap (λ o. ordering_then o (slice_cmp nat_cmp xs ys)) (digit_cmp p q x y sx.0 sy.0) ∙ then_then (nat_cmp p q) (nat_cmp x y) (slice_cmp nat_cmp xs ys))

pub eight : (P : List ℕ → Type 0) (m : List ℕ) → length m ≡ 8 → ((a b c d e f g h : ℕ) → P (a ∷ b ∷ c ∷ d ∷ e ∷ f ∷ g ∷ h ∷ [])) → P m
eight P (a ∷ b ∷ c ∷ d ∷ e ∷ f ∷ g ∷ h ∷ []) l k = k a b c d e f g h
eight P _ l k = absurd (omega arith)

number_digits : (x : List ℕ) → HasEightBytes x → from_be_bytes w64 x ≡ digits 0 x
number_digits x id = eight (λ (m : List ℕ). from_be_bytes w64 m ≡ digits 0 m) x id.len (λ a b c d e f g h. omega arith)

pub same_order : (x y : List ℕ) → HasEightBytes x → HasEightBytes y → nat_cmp (from_be_bytes w64 x) (from_be_bytes w64 y) ≡ id_cmp x y
same_order x y ix iy =
    (λ i. nat_cmp (number_digits x ix i) (number_digits y iy i)) ∙ digits_cmp x y 0 0 (ix.len ∙ sym iy.len) ix.bytes iy.bytes
