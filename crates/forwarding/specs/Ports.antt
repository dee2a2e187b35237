-- Ports at which frames enter and leave.
use Rattle.std.specs.Prelude.{ℕ, List, map, filter, Bool, false, not, ◌&&◌, ◌==◌, Option, Some, None, find}
use Rattle.std.specs.List.{range_with_len, list_any}
use Rattle.std.specs.Option.{option_map_or}
use Rattle.spb_types.specs.Ascending.{ascending}
use Rattle.spb_types.specs.Ports.{has}
use Rattle.spb_types.specs.Service.{receives}
use Rattle.spb_types.specs.declared.limits.TheConstants.{MOST_PORTS}
use Rattle.spb_types.specs.declared.ports.PortSet.{PortSet}
use Rattle.spb_types.specs.declared.service.Attachment.{Attachment}
use Rattle.spb_types.specs.declared.service.Isid.{Isid}
use Rattle.spb_types.specs.declared.service.Vid.{Vid}

-- ---- customer ports

-- what a customer port is attached to, if it is to anything
abbrev pub attachment_of : ℕ → List Attachment → Option Attachment
attachment_of port attached = find (λ a. a.port == port) attached

abbrev pub is_in : Isid → Attachment → Bool
is_in isid a = a.isid.value == isid.value

-- whether a port is attached to an I-SID and receives: at these the I-SID's frames leave
abbrev pub is_receiver : Isid → Attachment → Bool
is_receiver isid a = is_in isid a && receives a.mode

abbrev pub receiving_ports : Isid → List Attachment → List ℕ
receiving_ports isid attached = ascending (λ p. p) (map (λ a. a.port) (filter (is_receiver isid) attached))

-- whether a port is attached and doesn't receive: nothing leaves there
abbrev pub is_mute : ℕ → List Attachment → Bool
is_mute port attached = option_map_or (λ a. not (receives a.mode)) (attachment_of port attached) false

-- whether some port is attached to the I-SID in this VID
abbrev pub is_served : Isid → Vid → List Attachment → Bool
is_served isid vid attached = list_any (λ a. is_in isid a && (a.vid.value == vid.value)) attached

-- what is attached, without the customer port of this number
abbrev pub is_at_other_port : ℕ → Attachment → Bool
is_at_other_port port a = not (a.port == port)

abbrev pub without_customer_port : ℕ → List Attachment → List Attachment
without_customer_port port attached = filter (is_at_other_port port) attached

-- ---- backbone ports

-- the ports of a set, ascending
abbrev pub ports_in : PortSet → List ℕ
ports_in set = filter (has set) (range_with_len 1 MOST_PORTS)

-- whether the port that a table gives, if it gives one, is this port
abbrev pub is_way : ℕ → Option ℕ → Bool
is_way port None = false
is_way port (Some p) = p == port

-- ports but for one
abbrev pub but_for : ℕ → List ℕ → List ℕ
but_for port ports = filter (λ p. not (p == port)) ports
