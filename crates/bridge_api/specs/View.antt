-- What a bridge is, seen from outside.
use Rattle.std.specs.Prelude.{ℕ, ◌+◌, ◌-◌, List, [], ◌∷◌, length, map, Bool, false, ◌||◌, ◌≤◌, nat_le, Option, Some, None, if◌then◌else◌, slice_get, slice_set}
use Rattle.std.specs.Option.{option_and_then, option_map}
use Rattle.std.specs.List.{list_any}
use Rattle.std.specs.FinMap.{entries}
use Rattle.spb_types.specs.declared.address.BridgeId.{BridgeId}
use Rattle.spb_types.specs.declared.address.LspId.{LspId}
use Rattle.spb_types.specs.declared.service.SourceId.{SourceId}
use Rattle.spb_types.specs.declared.service.VidPlan.{VidPlan}
use Rattle.spb_types.specs.declared.service.Attachment.{Attachment}
use Rattle.spb_types.specs.declared.ports.PortSet.{PortSet}
use Rattle.spb_types.specs.Ports.{no_ports, with_port}
use Rattle.customer_learning.specs.Known.{Addresses}
use Rattle.lsdb.specs.Entry.{Entry}
use Rattle.lsdb.specs.Database.{Lsps, any_flags}
use Rattle.lsdb.specs.Certificate.{Control}
use Rattle.adjacency.specs.declared.port.Adjacency.{Adjacency}
use Rattle.adjacency.specs.Hearing.{End}
use Rattle.adjacency.specs.Adjacency.{neighbour_of, is_up}
use Rattle.bridge_api.specs.declared.port.BridgePort.{BridgePort}
use Rattle.bridge_api.specs.declared.drops.Drops.{Drops}

-- a bridge: its configuration, its backbone ports from number 1 on, the LSPs that it holds, the customer ports that are
-- attached, the customers' addresses that it has learned for each I-SID, whether its own sequence numbers are spent,
-- whether a call found no memory, and the counts of dropped frames
pub record BridgeView : Type 0 where
  pub id : BridgeId
  pub source : SourceId
  pub vids : List VidPlan
  pub ports : List BridgePort
  pub database : Lsps
  pub attached : List Attachment
  pub learned : Addresses
  pub spent : Bool
  pub failed : Bool
  pub drops : Drops

-- the number of a port of the bridge
pub record IsPort (v : BridgeView) (port : ℕ) : Type 0 where
  pub low : 1 ≤ port
  pub high : port ≤ length v.ports

-- the port of a number, which counts from 1
abbrev pub port_in : List BridgePort → ℕ → Option BridgePort
port_in ports p = if nat_le 1 p then slice_get ports (p - 1) else None

abbrev pub port_at : BridgeView → ℕ → Option BridgePort
port_at v p = port_in v.ports p

-- the bridge with another state of its port of this number
abbrev pub with_port_at : ℕ → BridgePort → BridgeView → BridgeView
with_port_at p port v = record v { ports = slice_set v.ports (p - 1) port }

-- the bridge with other counts of dropped frames
abbrev pub with_drops : Drops → BridgeView → BridgeView
with_drops drops v = record v { drops = drops }

-- the metrics of the links at the ports, in order
abbrev pub metrics_of : List BridgePort → List ℕ
metrics_of ports = map (λ port. port.metric) ports

-- the adjacency at a port
unfoldable pub adjacency_at : BridgeView → ℕ → Option Adjacency
adjacency_at v p = option_map (λ port. port.adjacency) (port_at v p)

-- the neighbour that is kept at a port
unfoldable pub neighbour_at : BridgeView → ℕ → Option End
neighbour_at v p = option_and_then (λ port. neighbour_of port.adjacency) (port_at v p)

-- whether a port is Up, whether there is carrier, and whether CSNPs are due there
abbrev pub is_port_up : BridgePort → Bool
is_port_up port = is_up port.adjacency.state

abbrev pub is_up_in : Option BridgePort → Bool
is_up_in None = false
is_up_in (Some port) = is_port_up port

unfoldable pub is_up_at : BridgeView → ℕ → Bool
is_up_at v p = is_up_in (port_at v p)

abbrev pub has_carrier_in : Option BridgePort → Bool
has_carrier_in None = false
has_carrier_in (Some port) = port.adjacency.carrier

unfoldable pub has_carrier_at : BridgeView → ℕ → Bool
has_carrier_at v p = has_carrier_in (port_at v p)

abbrev pub is_csnp_due_in : Option BridgePort → Bool
is_csnp_due_in None = false
is_csnp_due_in (Some port) = port.csnp_due

unfoldable pub is_csnp_due_at : BridgeView → ℕ → Bool
is_csnp_due_at v p = is_csnp_due_in (port_at v p)

-- the ports that are Up, of those from number p on
abbrev pub up_from : ℕ → List BridgePort → PortSet
up_from p [] = no_ports
up_from p (port ∷ ports) = if is_port_up port then with_port (up_from (p + 1) ports) p else up_from (p + 1) ports

abbrev pub up_ports : BridgeView → PortSet
up_ports v = up_from 1 v.ports

-- whether anything is to be sent, acknowledged or asked for at any port, or CSNPs are due at one
unfoldable pub has_flags : BridgeView → Bool
has_flags v = any_flags v.database || list_any (λ port. port.csnp_due) v.ports

-- what is held at a place, in order of id
abbrev pub entry_at : BridgeView → ℕ → Option (LspId × Entry)
entry_at v place = slice_get (entries v.database) place

-- what flooding rests on
abbrev pub control_of : BridgeView → Control
control_of v = record { up = up_ports v; db = v.database }
