-- Which hellos are heard, and from whom (RFC 5303, 3.2).
use Rattle.std.specs.Prelude.{ℕ, Bool, false, ◌&&◌, ◌||◌, not, Option, Some, None, ◌==◌, nat_lt}
use Rattle.spb_types.specs.declared.address.SystemId.{SystemId}
use Rattle.spb_types.specs.Address.{same_system}
use Rattle.isis_pdu.specs.Pdu.{HelloValue}
use Rattle.spb_tlvs.specs.declared.three_way.ThreeWay.{ThreeWay}
use Rattle.spb_types.specs.declared.level.TheConstants.{LEVEL_1}

-- the circuit type of a system that speaks level 1, alone or with level 2 (ISO/IEC 10589, 9.7)
abbrev pub has_level_one : ℕ → Bool
has_level_one circuit_type = (circuit_type == LEVEL_1) || (circuit_type == 3)

-- an end of a circuit: a system and its extended local circuit id
abbrev pub End : Type 0
End = SystemId × ℕ

abbrev pub same_end : End → End → Bool
same_end x y = same_system x.0 y.0 && (x.1 == y.1)

-- whether a neighbour is named that isn't this end
abbrev pub names_another : End → Option End → Bool
names_another this None = false
names_another this (Some n) = not (same_end n this)

-- a hello is discarded where its sender doesn't speak level 1, is this system, or names another end as its neighbour
abbrev pub is_discarded : SystemId → ℕ → HelloValue → ThreeWay → Bool
is_discarded me port hello way = not (has_level_one hello.circuit_type) || same_system hello.source me
    || names_another (me, port) way.neighbour

-- the end that a hello comes from
abbrev pub sender : HelloValue → ThreeWay → End
sender hello way = (hello.source, way.circuit)

-- whether a hello keeps a neighbour Up that is Up already: it isn't discarded, the state that it says is Up or
-- Initializing (RFC 5303, 3.2, table), and its holding time isn't 0
abbrev pub keeps_up : SystemId → ℕ → HelloValue → ThreeWay → Bool
keeps_up me port hello way = nat_lt way.state 2 && nat_lt 0 hello.holding && not (is_discarded me port hello way)
