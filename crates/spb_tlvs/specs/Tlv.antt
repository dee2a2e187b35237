-- TLVs: a code, a length and a value of that many bytes (the variable length fields of ISO/IEC 10589, 9.5 to 9.13),
-- one after another. Sub-TLVs have the same form (RFC 5305, 3).
use Rattle.std.specs.Prelude.{ℕ, List, ◌∷◌, length, map, drop, Bool, ◌&&◌, ◌==◌}
use Rattle.std.specs.List.{filter, list_all}
use Rattle.spb_types.specs.Bytes.{u8_at}
use Rattle.spb_tlvs.specs.Piece.{pieces, ends_whole}

pub record Tlv : Type 0 where
  pub code : ℕ
  pub value : List ℕ

-- the one spelling of a TLV
abbrev pub tlv : ℕ → List ℕ → List ℕ
tlv code value = code ∷ length value ∷ value

-- the TLV that a piece with a head of two bytes is
abbrev pub tlv_of : List ℕ → Tlv
tlv_of piece = record { code = u8_at piece 0; value = drop 2 piece }

-- the whole TLVs from the front on
abbrev pub tlvs_in : List ℕ → List Tlv
tlvs_in bytes = map tlv_of (pieces 2 bytes)

-- the values of those with a code, in order
abbrev pub values_with : ℕ → List ℕ → List (List ℕ)
values_with code bytes = map (λ t. t.value) (filter (λ t. t.code == code) (tlvs_in bytes))

-- whether the bytes are whole TLVs and nothing else, and each of them passes a test
abbrev pub are_whole : (Tlv → Bool) → List ℕ → Bool
are_whole test bytes = ends_whole 2 bytes && list_all test (tlvs_in bytes)
