use Rattle.std.specs.Prelude.{◌≡◌, ℕ, ◌+◌, ◌*◌, ◌/◌, ◌%◌, ◌<◌, ◌^◌, List, [], ◌∷◌, length, Bool, map, bit_xor}
use Rattle.std.specs.List.{AllByRecursion}
use Rattle.std.specs.Int.{w64, from_be_bytes}
use Rattle.std.specs.Str.{bytes_eq}
use Rattle.spb_types.specs.declared.address.Mac.{Mac}
use Rattle.spb_types.specs.declared.address.SystemId.{SystemId}
use Rattle.spb_types.specs.declared.address.BridgeId.{BridgeId}

-- whether two system ids are the same six bytes
abbrev pub same_system : SystemId → SystemId → Bool
same_system x y = bytes_eq x.mac.bytes y.mac.bytes

-- a system id as a number, the greatest byte first
unfoldable pub system_number : SystemId → ℕ
system_number x = from_be_bytes w64 (0 ∷ 0 ∷ x.mac.bytes)

-- a system id is six bytes
pub record HasSixBytes (x : SystemId) : Type 0 where
  pub len : length x.mac.bytes ≡ 6
  pub bytes : AllByRecursion (λ b. b < 256) x.mac.bytes

-- the eight bytes of a bridge id: the priority and the system id, in order (IEEE 802.1aq, 28.5)
abbrev pub bridge_id_bytes : BridgeId → List ℕ
bridge_id_bytes b = (b.priority / 256) ∷ (b.priority % 256) ∷ b.system.mac.bytes

-- the masked id: each of those bytes XORed with the mask (IEEE 802.1aq, 28.8)
abbrev pub masked : ℕ → BridgeId → List ℕ
masked mask b = map (λ byte. bit_xor byte mask) (bridge_id_bytes b)

-- the group address of a source and an I-SID: the low 20 bits of the source behind a nibble 3, which marks it as a
-- group address of local use, and the low 24 bits of the I-SID (IEEE 802.1aq, 27.15)
abbrev pub group_address : ℕ → ℕ → Mac
group_address source isid = record {
  bytes = ((source / 2 ^ 16 % 16) * 16 + 3) ∷ (source / 256 % 256) ∷ (source % 256)
      ∷ (isid / 2 ^ 16 % 256) ∷ (isid / 256 % 256) ∷ (isid % 256) ∷ [];
}

-- different sources of 20 bits, or different I-SIDs of 24, have different group addresses
abbrev pub GroupAddressesDiffer : Type 0
GroupAddressesDiffer = (s t i j : ℕ) → s < 2 ^ 20 → t < 2 ^ 20 → i < 2 ^ 24 → j < 2 ^ 24
    → group_address s i ≡ group_address t j → (s ≡ t) × (i ≡ j)
