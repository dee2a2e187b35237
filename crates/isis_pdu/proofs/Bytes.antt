-- Numbers as bytes.
use Rattle.std.proofs.Common.{◌≡◌, ℕ, ◌+◌, ◌*◌, ◌^◌, ◌<◌, [], ◌∷◌, refl, arith}
use Rattle.std.specs.Int.{w16, to_be_bytes}
use Rattle.isis_pdu.specs.Bytes.{u16_bytes}

-- bytes of equal numbers
two : (a b c d : ℕ) → a ≡ c → b ≡ d → (a ∷ b ∷ []) ≡ (c ∷ d ∷ [])
two a b c d p q = cc

-- std's spelling of a number, which drops what doesn't fit, is ours where it fits
pub be_bytes_u16 : (n : ℕ) → n < 2 ^ 16 → to_be_bytes w16 n ≡ u16_bytes n
be_bytes_u16 n fits = two _ _ _ _ (omega arith) refl

-- the bytes of a number of two bytes
pub u16_bytes-made : (a b : ℕ) → b < 256 → u16_bytes (a * 256 + b) ≡ a ∷ b ∷ []
u16_bytes-made a b fits = two _ _ _ _ (omega arith) (omega arith)
