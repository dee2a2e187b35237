-- The checksum of an LSP (ISO/IEC 10589, 7.3.11; ISO 8473-1, annex C).
use Rattle.std.specs.Prelude.{ℕ, ◌+◌, ◌*◌, ◌-◌, ◌/◌, ◌%◌, ◌<◌, ◌≤◌, List, [], ◌∷◌, ◌++◌, length, fold, Bool, ◌&&◌, ◌==◌, if◌then◌else◌}
use Rattle.spb_types.specs.declared.address.LspId.{LspId}
use Rattle.isis_pdu.specs.declared.checksum.Sums.{Sums}
use Rattle.spb_types.specs.Bytes.{lsp_id_bytes}
use Rattle.isis_pdu.specs.Bytes.{u16_bytes, u32_bytes}

-- one more byte: it is added to the first sum, and the first sum to the second
abbrev pub summed : Sums → ℕ → Sums
summed s byte = record { c0 = (s.c0 + byte) % 255; c1 = (s.c1 + (s.c0 + byte) % 255) % 255 }

-- the two running sums after bytes, from what they were before them
abbrev pub sums_from : Sums → List ℕ → Sums
sums_from s bytes = fold summed s bytes

abbrev pub sums_of : List ℕ → Sums
sums_of bytes = sums_from (record { c0 = 0; c1 = 0 }) bytes

-- both sums are below 255
pub record IsReduced (s : Sums) : Type 0 where
  pub c0 : s.c0 < 255
  pub c1 : s.c1 < 255

-- the sum of bytes, and the sum of each byte times its place from the end: modulo 255, what they add to the sums
abbrev pub total : List ℕ → ℕ
total [] = 0
total (b ∷ bs) = b + total bs

abbrev pub weight : List ℕ → ℕ
weight [] = 0
weight (b ∷ bs) = b * (1 + length bs) + weight bs

-- whether both sums of the bytes are 0
abbrev pub is_checked : List ℕ → Bool
is_checked bytes = ((sums_of bytes).c0 == 0) && ((sums_of bytes).c1 == 0)

-- what the checksum of an LSP covers: all from its id to its end, so not the remaining lifetime
abbrev pub covered : LspId → ℕ → ℕ → ℕ → List ℕ → List ℕ
covered id seq sum flags tlvs = lsp_id_bytes id ++ u32_bytes seq ++ u16_bytes sum ++ (flags ∷ []) ++ tlvs

-- both check bytes of a checksum field are in 1 to 255
pub record HasCheckBytes (sum : ℕ) : Type 0 where
  pub first : 1 ≤ sum / 256
  pub first_fits : sum / 256 ≤ 255
  pub second : 1 ≤ sum % 256

-- the number in 1 to 255 that is n modulo 255
abbrev pub check_byte : ℕ → ℕ
check_byte n = if n % 255 == 0 then 255 else n % 255

-- the two check bytes that make it so, from the sums with 0 in their place and the length of the TLVs
abbrev pub first_check : Sums → ℕ → ℕ
first_check s len = check_byte ((len % 255 + 2) * s.c0 + 255 - s.c1)

abbrev pub second_check : Sums → ℕ → ℕ
second_check s len = check_byte (510 - s.c0 - first_check s len)

unfoldable pub check_field : Sums → ℕ → ℕ
check_field s len = first_check s len * 256 + second_check s len

-- the checksum field that an LSP of these fields is given
unfoldable pub lsp_sum_of : LspId → ℕ → ℕ → List ℕ → ℕ
lsp_sum_of id seq flags tlvs = check_field (sums_of (covered id seq 0 flags tlvs)) (length tlvs)
