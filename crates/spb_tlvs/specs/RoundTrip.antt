-- What is written is read again, and what is written of what was read.
use Rattle.std.specs.Prelude.{◌≡◌, ◌≢◌, ℕ, ◌≤◌, ◌<◌, ◌^◌, List, [], ◌∷◌, ◌++◌, length, slice_index, true, Option, Some, None, Ok}
use Rattle.std.specs.List.{AllByRecursion}
use Rattle.spb_types.specs.declared.address.SystemId.{SystemId}
use Rattle.spb_types.specs.declared.address.Mac.{Mac}
use Rattle.spb_tlvs.specs.declared.three_way.ThreeWay.{ThreeWay}
use Rattle.spb_tlvs.specs.declared.entries.SnpEntry.{SnpEntry}
use Rattle.spb_tlvs.specs.declared.neighbours.Neighbour.{Neighbour}
use Rattle.spb_tlvs.specs.declared.capability.Capability.{Capability}
use Rattle.spb_tlvs.specs.declared.capability.Capability.TheVariants.{Inst, Services}
use Rattle.spb_tlvs.specs.Piece.{ends_whole}
use Rattle.spb_tlvs.specs.Tlv.{tlv, values_with}
use Rattle.spb_tlvs.specs.ThreeWay.{three_way_value, three_way_of}
use Rattle.spb_tlvs.specs.Entry.{entries_value, entries_of}
use Rattle.spb_tlvs.specs.Neighbour.{neighbours_value, neighbours_of}
use Rattle.spb_tlvs.specs.Capability.{IsCapability, capability_value, capabilities_of}

-- ---- what the fields of the types hold

-- numbers that are bytes
abbrev pub AreBytes : List ℕ → Type 0
AreBytes bytes = (i : ℕ) → slice_index bytes i < 256

abbrev pub IsMac : Mac → Type 0
IsMac m = length m.bytes ≡ 6

abbrev pub IsNamed : Option (SystemId × ℕ) → Type 0
IsNamed None = Unit {0}
IsNamed (Some n) = IsMac n.0.mac × (n.1 < 2 ^ 32)

pub record IsThreeWay (w : ThreeWay) : Type 0 where
  pub state : w.state ≤ 2
  pub circuit : w.circuit < 2 ^ 32
  pub named : IsNamed w.neighbour

pub record IsEntry (e : SnpEntry) : Type 0 where
  pub lifetime : e.lifetime < 2 ^ 16
  pub system : IsMac e.id.system.mac
  pub seq : e.seq < 2 ^ 32
  pub sum : e.sum < 2 ^ 16

pub record IsNeighbour (n : Neighbour) : Type 0 where
  pub system : IsMac n.system.mac
  pub metric : n.metric < 2 ^ 24
  pub port : n.port < 2 ^ 16

abbrev pub IsHeld : Capability → Type 0
IsHeld (Inst priority source trees) = priority < 2 ^ 16
IsHeld (Services mac vid services) = IsMac mac

-- ---- a reader reads what its writer appends

abbrev pub ThreeWayAgain : Type 0
ThreeWayAgain = (w : ThreeWay) → IsThreeWay w → three_way_of (three_way_value w) ≡ Ok w

abbrev pub EntriesAgain : Type 0
EntriesAgain = (es : List SnpEntry) → AllByRecursion IsEntry es → entries_of (entries_value es) ≡ Ok es

abbrev pub NeighboursAgain : Type 0
NeighboursAgain = (ns : List Neighbour) → AllByRecursion IsNeighbour ns → neighbours_of (neighbours_value ns) ≡ Ok ns

abbrev pub CapabilityAgain : Type 0
CapabilityAgain = (c : Capability) → IsCapability c → IsHeld c → capabilities_of (capability_value c) ≡ Ok (c ∷ [])

-- ---- what was read is written to the same bytes: each value of these two TLVs, since no byte of it is ignored

abbrev pub ThreeWaySame : Type 0
ThreeWaySame = (value : List ℕ) (w : ThreeWay) → AreBytes value → three_way_of value ≡ Ok w → three_way_value w ≡ value

abbrev pub EntriesSame : Type 0
EntriesSame = (value : List ℕ) (es : List SnpEntry) → AreBytes value → entries_of value ≡ Ok es
    → entries_value es ≡ value

-- and of the others each value that a writer appends

abbrev pub NeighboursSame : Type 0
NeighboursSame = (value : List ℕ) (ns ms : List Neighbour) → AllByRecursion IsNeighbour ns → value ≡ neighbours_value ns
    → neighbours_of value ≡ Ok ms → neighbours_value ms ≡ value

abbrev pub CapabilitySame : Type 0
CapabilitySame = (value : List ℕ) (c d : Capability) → IsCapability c → IsHeld c → value ≡ capability_value c
    → capabilities_of value ≡ Ok (d ∷ []) → capability_value d ≡ value

-- ---- TLVs one after another

-- a TLV is found where it stands first
abbrev pub TlvHere : Type 0
TlvHere = (code : ℕ) (value rest : List ℕ) → values_with code (tlv code value ++ rest) ≡ value ∷ values_with code rest

-- and not by another code
abbrev pub TlvElsewhere : Type 0
TlvElsewhere = (code other : ℕ) (value rest : List ℕ) → code ≢ other
    → values_with other (tlv code value ++ rest) ≡ values_with other rest

-- the TLVs of whole TLVs and what follows them are the TLVs of both
abbrev pub TlvsJoin : Type 0
TlvsJoin = (code : ℕ) (front rest : List ℕ) → ends_whole 2 front ≡ true
    → values_with code (front ++ rest) ≡ values_with code front ++ values_with code rest

-- TLVs one after another are whole
abbrev pub TlvIsWhole : Type 0
TlvIsWhole = (code : ℕ) (value rest : List ℕ) → ends_whole 2 (tlv code value ++ rest) ≡ ends_whole 2 rest
