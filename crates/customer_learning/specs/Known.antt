-- Where the addresses of customers are, as a bridge has learned from frames (IEEE 802.1Q, 8.7).
use Rattle.std.specs.Prelude.{ℕ, List, [], ◌∷◌, Bool, false, not, ◌==◌, Option, Some, None, filter, take}
use Rattle.std.specs.Str.{bytes_eq}
use Rattle.std.specs.Map.{lookup, remove_entry}
use Rattle.std.specs.Option.{option_map}
use Rattle.std.specs.Ordering.{nat_cmp}
use Rattle.std.specs.declared.cmp.Ordering.{Ordering}
use Rattle.std.specs.FinMap.{FinMap, get, insert, remove}
use Rattle.spb_types.specs.declared.address.Mac.{Mac}
use Rattle.spb_types.specs.declared.service.Isid.{Isid}
use Rattle.spb_types.specs.declared.limits.TheConstants.{MOST_ADDRESSES}
use Rattle.customer_learning.specs.declared.place.Place.{Place}
use Rattle.customer_learning.specs.declared.place.Place.TheVariants.{Local, Remote}

abbrev pub same_mac : Mac → Mac → Bool
same_mac m n = bytes_eq m.bytes n.bytes

-- ---- one service instance: its addresses with their places, the one learned last first

-- the place of an address
abbrev pub place_among : List (Mac × Place) → Mac → Option Place
place_among known mac = lookup (same_mac mac) known

-- an address learned: it goes to the front with its place, and past the most that are kept the last is forgotten
abbrev pub brought : Mac → Place → List (Mac × Place) → List (Mac × Place)
brought mac place known = take MOST_ADDRESSES ((mac, place) ∷ remove_entry (same_mac mac) known)

-- whether a place is this customer port
abbrev pub is_local : ℕ → Place → Bool
is_local port (Local p) = p == port
is_local port (Remote b) = false

-- the addresses that aren't at this customer port, in order
abbrev pub without_local : ℕ → List (Mac × Place) → List (Mac × Place)
without_local port known = filter (λ e. not (is_local port e.1)) known

-- ---- all service instances

abbrev pub isid_cmp : Isid → Isid → Ordering
isid_cmp x y = nat_cmp x.value y.value

-- what is learned: for each I-SID of which something was learned, its addresses
abbrev pub Addresses : Type 0
Addresses = FinMap isid_cmp (List (Mac × Place))

abbrev pub or_none : Option (List (Mac × Place)) → List (Mac × Place)
or_none None = []
or_none (Some known) = known

abbrev pub known_in : Addresses → Isid → List (Mac × Place)
known_in learned isid = or_none (get learned isid)

-- the place of an address in an I-SID, as far as it was learned
abbrev pub place_in : Addresses → Isid → Mac → Option Place
place_in learned isid mac = place_among (known_in learned isid) mac

abbrev pub with_learned : Addresses → Isid → Mac → Place → Addresses
with_learned learned isid mac place = insert learned isid (brought mac place (known_in learned isid))

abbrev pub with_known : Addresses → Isid → Option (List (Mac × Place)) → Addresses
with_known learned isid None = learned
with_known learned isid (Some known) = insert learned isid known

-- the addresses at a customer port forgotten, in its I-SID
abbrev pub with_port_forgotten : Addresses → Isid → ℕ → Addresses
with_port_forgotten learned isid port = with_known learned isid (option_map (without_local port) (get learned isid))

-- all that was learned of an I-SID forgotten
abbrev pub with_isid_forgotten : Addresses → Isid → Addresses
with_isid_forgotten learned isid = remove learned isid
