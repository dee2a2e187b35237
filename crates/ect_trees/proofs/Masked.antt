-- The masked id of a bridge is spelled by a number: that of its id, XORed with eight times the mask.
use Rattle.std.proofs.Common.{◌≡◌, ℕ, zero, suc, ◌+◌, ◌*◌, ◌<◌, List, [], ◌∷◌, length, map, get_or, bit_xor, refl, sym, ap, ◌∙◌, arith}
use Rattle.std.specs.List.{AllByRecursion}
use Rattle.std.specs.Int.{w64, from_le_bytes, to_le_bytes}
use Rattle.std.proofs.lemmas.List.{length-map}
use Rattle.std.proofs.lemmas.Nat.{xor_block, xor_lt, le_bytes_8}
use Rattle.ect_trees.specs.Key.{HasEightBytes}
use Rattle.ect_trees.proofs.Numbers.{eight}

-- bytes as the digits of a number, the first one the least
abbrev digits : List ℕ → ℕ
digits [] = 0
digits (b ∷ bs) = digits bs * 256 + b

number_digits : (x : List ℕ) → length x ≡ 8 → from_le_bytes w64 x ≡ digits x
number_digits x len = eight (λ (m : List ℕ). from_le_bytes w64 m ≡ digits m) x len (λ a b c d e f g h. omega arith)

-- bytes that are XORed one by one
abbrev xored : ℕ → List ℕ → List ℕ
xored m xs = map (λ b. bit_xor b m) xs

xor_digits : (m : ℕ) (xs : List ℕ) → m < 256 → AllByRecursion (λ b. b < 256) xs → bit_xor (digits xs) (digits (map (λ b. m) xs)) ≡ digits (xored m xs)
xor_digits m [] low s = refl
xor_digits m (x ∷ xs) low s =
    xor_block 8 (digits xs) (digits (map (λ b. m) xs)) x m s.0 low ∙ ap (λ n. n * 256 + bit_xor x m) (xor_digits m xs low s.1)

xored_bytes : (m : ℕ) (xs : List ℕ) → m < 256 → AllByRecursion (λ b. b < 256) xs → AllByRecursion (λ b. b < 256) (xored m xs)
xored_bytes m [] low s = tt
xored_bytes m (x ∷ xs) low s = (xor_lt 8 x m s.0 low, xored_bytes m xs low s.1)

below_each : (xs : List ℕ) → AllByRecursion (λ b. b < 256) xs → (i : ℕ) → get_or xs i 0 < 256
below_each [] s i = omega arith
below_each (x ∷ xs) s zero = s.0
below_each (x ∷ xs) s (suc i) = below_each xs s.1 i

masks : (m : ℕ) (xs : List ℕ) → length xs ≡ 8 → from_le_bytes w64 (m ∷ m ∷ m ∷ m ∷ m ∷ m ∷ m ∷ m ∷ []) ≡ digits (map (λ b. m) xs)
masks m xs len =
    eight (λ (l : List ℕ). from_le_bytes w64 (m ∷ m ∷ m ∷ m ∷ m ∷ m ∷ m ∷ m ∷ []) ≡ digits (map (λ b. m) l)) xs len (λ a b c d e f g h. omega arith)

-- the bytes of the number are the masked ones
pub masked_bytes : (m : ℕ) (xs : List ℕ) (n : ℕ) → m < 256 → HasEightBytes xs → n ≡ bit_xor (from_le_bytes w64 xs) (from_le_bytes w64 (m ∷ m ∷ m ∷ m ∷ m ∷ m ∷ m ∷ m ∷ [])) → to_le_bytes w64 n ≡ map (λ b. bit_xor b m) xs
masked_bytes m xs n low id is = le_bytes_8 (xored m xs) n long (below_each (xored m xs) (xored_bytes m xs low id.bytes)) (is ∙ number)
  where
    long : length (xored m xs) ≡ 8
    long = length-map xs (λ (b : ℕ). bit_xor b m) ∙ id.len

    number : bit_xor (from_le_bytes w64 xs) (from_le_bytes w64 (m ∷ m ∷ m ∷ m ∷ m ∷ m ∷ m ∷ m ∷ [])) ≡ from_le_bytes w64 (xored m xs)
    number = (λ i. bit_xor (number_digits xs id.len i) (masks m xs id.len i)) ∙ (xor_digits m xs low id.bytes ∙ sym (number_digits (xored m xs) long))
