-- The extended IS reachability TLV, code 22 (RFC 5305, 3), whose entries carry the SPB link metric, sub-TLV 29
-- (RFC 6329, 15.1).
use Rattle.std.specs.Prelude.{ℕ, List, ◌∷◌, ◌++◌, length, drop, Bool, ◌&&◌, ◌||◌, not, nat_le, Option, None, Result, Ok, Err, ◌==◌, if◌then◌else◌}
use Rattle.std.specs.List.{flat_map, filter_map, list_all, slice_get}
use Rattle.std.specs.Option.{option_map}
use Rattle.spb_types.specs.Bytes.{u8_at, u16_at, u24_at, system_at}
use Rattle.spb_tlvs.specs.declared.error.TlvError.{TlvError}
use Rattle.spb_tlvs.specs.declared.error.TlvError.TheVariants.{Cut}
use Rattle.spb_tlvs.specs.declared.neighbours.Neighbour.{Neighbour}
use Rattle.spb_tlvs.specs.Number.{two, three}
use Rattle.spb_tlvs.specs.Piece.{pieces, ends_whole}
use Rattle.spb_tlvs.specs.Tlv.{Tlv, tlv, are_whole, values_with}

-- the SPB link metric: the metric, one port, and its id
abbrev pub metric_value : Neighbour → List ℕ
metric_value n = three n.metric ++ 1 ∷ two n.port

-- an entry: the neighbour's system id and pseudonode, the metric, the length of the sub-TLVs, and the sub-TLVs
abbrev pub sub_tlvs : Neighbour → List ℕ
sub_tlvs n = tlv 29 (metric_value n)

abbrev pub neighbour_bytes : Neighbour → List ℕ
neighbour_bytes n = n.system.mac.bytes ++ 0 ∷ three n.metric ++ length (sub_tlvs n) ∷ sub_tlvs n

-- the value of neighbours: their entries, one after another
abbrev pub neighbours_value : List Neighbour → List ℕ
neighbours_value ns = flat_map neighbour_bytes ns

-- ---- reading: the entries are pieces with a head of 11 bytes, which counts the sub-TLVs' bytes

abbrev pub sub_tlvs_of : List ℕ → List ℕ
sub_tlvs_of entry = drop 11 entry

-- whether a sub-TLV is no SPB link metric, or one with at least its six bytes
abbrev pub is_metric_whole : Tlv → Bool
is_metric_whole t = not (t.code == 29) || nat_le 6 (length t.value)

-- whether an entry's sub-TLVs are whole
abbrev pub is_entry_whole : List ℕ → Bool
is_entry_whole entry = are_whole is_metric_whole (sub_tlvs_of entry)

-- the neighbour that an entry names by its first SPB link metric. An entry without one, or of a pseudonode, is
-- ignored; so is the entry's own metric
abbrev pub neighbour_at : List ℕ → List ℕ → Neighbour
neighbour_at entry metric = record { system = system_at entry 0; metric = u24_at metric 0; port = u16_at metric 4 }

abbrev pub neighbour_of : List ℕ → Option Neighbour
neighbour_of entry =
    if u8_at entry 6 == 0
    then option_map (neighbour_at entry) (slice_get (values_with 29 (sub_tlvs_of entry)) 0)
    else None

-- what one entry says
abbrev pub one_neighbour : List ℕ → Result (Option Neighbour) TlvError
one_neighbour entry = if is_entry_whole entry then Ok (neighbour_of entry) else Err Cut

-- what a value says: whole entries, and nothing else
abbrev pub neighbours_of : List ℕ → Result (List Neighbour) TlvError
neighbours_of value =
    if ends_whole 11 value && list_all is_entry_whole (pieces 11 value)
    then Ok (filter_map neighbour_of (pieces 11 value))
    else Err Cut
