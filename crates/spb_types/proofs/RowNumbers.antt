-- A row's VID and address are the same as others where they are the same as numbers.
use Rattle.std.proofs.Common.{◌≡◌, ℕ, suc, ◌+◌, ◌*◌, ◌/◌, ◌%◌, ◌<◌, ◌^◌, ◌&&◌, Bool, true, false, List, [], ◌∷◌, length, refl, sym, ap, ◌∙◌, arith}
use Rattle.std.specs.Prelude.{◌==◌}
use Rattle.std.specs.List.{AllByRecursion}
use Rattle.std.specs.Int.{w64, from_le_bytes}
use Rattle.std.specs.Str.{bytes_eq}
use Rattle.std.proofs.lemmas.Bool.{eqb-true, eq-eqb, and_parts}
use Rattle.std.proofs.lemmas.Slice.Eq.{bytes_eq-Decides}
use Rattle.spb_types.specs.declared.address.Mac.{Mac}
use Rattle.spb_types.specs.declared.service.Vid.{Vid}
use Rattle.spb_types.specs.Address.{HasSixBytes}
use Rattle.spb_types.specs.Tables.{row_bytes}
use Rattle.spb_types.proofs.SystemNumbers.{last_digit, six}

-- bytes as the digits of a number, the first one the least
abbrev digits : List ℕ → ℕ
digits [] = 0
digits (b ∷ bs) = digits bs * 256 + b

same_digits : (xs ys : List ℕ) → length xs ≡ length ys → AllByRecursion (λ b. b < 256) xs → AllByRecursion (λ b. b < 256) ys → digits xs ≡ digits ys → xs ≡ ys
same_digits [] [] len sx sy e = refl
same_digits [] (y ∷ ys) len sx sy e = absurd (omega arith)
same_digits (x ∷ xs) [] len sx sy e = absurd (omega arith)
same_digits (x ∷ xs) (y ∷ ys) len sx sy e =
    let here = last_digit (digits xs) (digits ys) x y sx.0 sy.0 e in
    let rest = same_digits xs ys (omega arith) sx.1 sy.1 here.0 in
    λ i. here.1 i ∷ rest i

number_digits : (l h : ℕ) (m : List ℕ) → length m ≡ 6 → from_le_bytes w64 (l ∷ h ∷ m) ≡ digits (l ∷ h ∷ m)
number_digits l h m len = six (λ (m : List ℕ). from_le_bytes w64 (l ∷ h ∷ m) ≡ digits (l ∷ h ∷ m)) m len (λ a b c d e f. omega arith)

record Same (v w : Vid) (x y : Mac) : Type 0 where
  vid : v.value ≡ w.value
  mac : x.bytes ≡ y.bytes

first_is : (a b : ℕ) (xs ys : List ℕ) → (a ∷ xs) ≡ (b ∷ ys) → a ≡ b
first_is a b xs ys h = cc

rest_is : (a b : ℕ) (xs ys : List ℕ) → (a ∷ xs) ≡ (b ∷ ys) → xs ≡ ys
rest_is a b xs ys h = cc

from_numbers : (v w : Vid) (x y : Mac) → HasSixBytes (record { mac = x }) → HasSixBytes (record { mac = y }) → v.value < 2 ^ 16 → w.value < 2 ^ 16 → from_le_bytes w64 (row_bytes v x) ≡ from_le_bytes w64 (row_bytes w y) → Same v w x y
from_numbers v w x y ix iy lv lw e = record { vid = omega (arith, low, high); mac = rest_is _ _ _ _ (rest_is _ _ _ _ all) }
  where
    all : row_bytes v x ≡ row_bytes w y
    all = same_digits (row_bytes v x) (row_bytes w y) (ap (λ n. suc (suc n)) (ix.len ∙ sym iy.len)) (omega arith, (omega (arith, lv), ix.bytes)) (omega arith, (omega (arith, lw), iy.bytes))
        (sym (number_digits (v.value % 256) (v.value / 256) x.bytes ix.len) ∙ (e ∙ number_digits (w.value % 256) (w.value / 256) y.bytes iy.len))

    low : v.value % 256 ≡ w.value % 256
    low = first_is _ _ _ _ all

    high : v.value / 256 ≡ w.value / 256
    high = first_is _ _ _ _ (rest_is _ _ _ _ all)

same_truth : (a b : Bool) → (a ≡ true → b ≡ true) → (b ≡ true → a ≡ true) → a ≡ b
same_truth true b f g = sym (f refl)
same_truth false true f g = g refl
same_truth false false f g = refl

both : (b c : Bool) → b ≡ true → c ≡ true → (b && c) ≡ true
both b c e f = ap (λ t. t && c) e ∙ f

pub same_rows : (v w : Vid) (x y : Mac) → HasSixBytes (record { mac = x }) → HasSixBytes (record { mac = y }) → v.value < 2 ^ 16 → w.value < 2 ^ 16
    → (from_le_bytes w64 (row_bytes v x) == from_le_bytes w64 (row_bytes w y)) ≡ ((v.value == w.value) && bytes_eq x.bytes y.bytes)
same_rows v w x y ix iy lv lw = same_truth _ _
    (λ h. (let same = from_numbers v w x y ix iy lv lw (eqb-true _ _ h) in both _ _ (eq-eqb v.value w.value same.vid) ((bytes_eq-Decides x.bytes y.bytes).1 same.mac)))
    (λ h. (let parts = and_parts (v.value == w.value) (bytes_eq x.bytes y.bytes) h in
    let vid : v.value ≡ w.value = eqb-true v.value w.value parts.0 in
    let mac : x.bytes ≡ y.bytes = (bytes_eq-Decides x.bytes y.bytes).0 parts.1 in
    eq-eqb _ _ (λ i. from_le_bytes w64 ((vid i % 256) ∷ (vid i / 256) ∷ mac i))))
