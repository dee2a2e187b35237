-- The three-way adjacency TLV, code 240 (RFC 5303, 3).
use Rattle.std.specs.Prelude.{ℕ, List, [], ◌∷◌, ◌++◌, length, Option, Some, None, Result, Ok, Err, ◌||◌, ◌==◌, nat_le, if◌then◌else◌}
use Rattle.spb_types.specs.Bytes.{u8_at, u32_at, system_at}
use Rattle.spb_types.specs.declared.address.SystemId.{SystemId}
use Rattle.spb_tlvs.specs.declared.error.TlvError.{TlvError}
use Rattle.spb_tlvs.specs.declared.error.TlvError.TheVariants.{Cut, Range}
use Rattle.spb_tlvs.specs.declared.three_way.ThreeWay.{ThreeWay}
use Rattle.spb_tlvs.specs.Number.{four}

-- the neighbour's system id and extended local circuit id, where there is a neighbour
abbrev pub neighbour_bytes : Option (SystemId × ℕ) → List ℕ
neighbour_bytes None = []
neighbour_bytes (Some n) = n.0.mac.bytes ++ four n.1

-- the value: the state, the own extended local circuit id, and the neighbour
abbrev pub three_way_value : ThreeWay → List ℕ
three_way_value w = w.state ∷ four w.circuit ++ neighbour_bytes w.neighbour

-- the neighbour that a value of 15 bytes has, and one of 5 bytes hasn't
abbrev pub neighbour_in : List ℕ → Option (SystemId × ℕ)
neighbour_in value = if length value == 15 then Some (system_at value 5, u32_at value 11) else None

-- what a value says: of 5 or 15 bytes, with a state of at most 2
abbrev pub three_way_of : List ℕ → Result ThreeWay TlvError
three_way_of value =
    if length value == 5 || length value == 15
    then (if nat_le (u8_at value 0) 2 then Ok
    (record { state = u8_at value 0; circuit = u32_at value 1; neighbour = neighbour_in value }) else Err Range)
    else Err Cut
