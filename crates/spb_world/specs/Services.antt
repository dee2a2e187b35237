-- Services: why one can't be declared, and what an accepted one makes of what is declared (IEEE 802.1ah, 25.10).
use Rattle.std.specs.Prelude.{ℕ, [], ◌∷◌, ◌++◌, length, Bool, ◌&&◌, nat_lt, nat_le, Option, is_none}
use Rattle.spb_types.specs.declared.limits.TheConstants.{GREATEST_ISID, MOST_SERVICES}
use Rattle.spb_types.specs.declared.service.Isid.{Isid}
use Rattle.spb_types.specs.declared.service.Vid.{Vid}
use Rattle.spb_world.specs.declared.reason.Reason.{Reason}
use Rattle.spb_world.specs.declared.reason.Reason.TheVariants.{NoSuchName, NameTaken, Range, TooMany}
use Rattle.spb_world.specs.Reason.{reason_unless, ◌or◌}
use Rattle.spb_world.specs.World.{World, Services, vid_of_isid}
use Rattle.spb_world.specs.Declaring.{has_vid}

-- the I-SID isn't declared
abbrev pub is_new_isid : Services → ℕ → Bool
is_new_isid services isid = is_none (vid_of_isid services isid)

-- an I-SID (IEEE 802.1ah, 9.7)
unfoldable pub is_isid_range : ℕ → Bool
is_isid_range isid = nat_le 1 isid && nat_le isid GREATEST_ISID

-- one service more can be declared
abbrev pub has_service_room : World → Bool
has_service_room w = nat_lt (length w.services) MOST_SERVICES

-- why a service in a base VID is refused
unfoldable pub isid_refusal : World → ℕ → ℕ → Option Reason
isid_refusal w isid vid = reason_unless (has_vid w.vids vid) NoSuchName
    or reason_unless (is_new_isid w.services isid) NameTaken or reason_unless (is_isid_range isid) Range
    or reason_unless (has_service_room w) TooMany

-- an I-SID in a base VID
abbrev pub service_of : ℕ → ℕ → Isid × Vid
service_of isid vid = (record { value = isid }, record { value = vid })

-- one service more
unfoldable pub with_service : World → Isid × Vid → World
with_service w service = record w { services = w.services ++ service ∷ [] }
