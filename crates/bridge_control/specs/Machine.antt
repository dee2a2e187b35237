-- The bridge that a machine's fields say.
use Rattle.std.specs.Prelude.{◌≡◌, ℕ, ◌+◌, ◌≤◌, List, [], ◌∷◌, length, false, Option, Some, None, if◌then◌else◌}
use Rattle.spb_types.specs.declared.address.SystemId.{SystemId}
use Rattle.spb_types.specs.declared.limits.TheConstants.{MOST_PORTS}
use Rattle.flooding.specs.Room.{most_others, others}
use Rattle.spb_content.specs.Local.{IsLocal}
use Rattle.bridge_api.specs.declared.port.BridgePort.{BridgePort}
use Rattle.bridge_api.specs.View.{BridgeView, IsPort, port_at, with_port_at, up_from}
use Rattle.bridge_api.specs.Own.{local_of, own_of, bodies_of, IsOwnLspCurrent}
use Rattle.bridge_api.specs.Parsing.{Parsed}
use Rattle.bridge_api.specs.Hearing.{heard_as}
use Rattle.bridge_api.specs.Ticking.{hello_frame}
use Rattle.bridge_api.specs.Laws.{IsSoundView}
use Rattle.bridge_control.specs.declared.machine.Machine.{Machine}
use Rattle.bridge_control.specs.Heard.{AreJudged}

abbrev pub view_of : Machine → BridgeView
view_of m = record {
  id = m.id;
  source = m.tenant.source;
  vids = m.vids;
  ports = m.ports.items;
  database = m.db;
  attached = m.tenant.attached;
  learned = m.tenant.learned;
  spent = m.own.spent;
  failed = false;
  drops = m.drops;
}

-- the hello that is kept for a port of number p: one is made where there is carrier
abbrev pub kept_hello : SystemId → ℕ → BridgePort → Option (List ℕ)
kept_hello system p port = if port.adjacency.carrier then Some (hello_frame system p port) else None

-- those that are kept for ports, of those from number p on
abbrev pub hellos_from : SystemId → ℕ → List BridgePort → List (Option (List ℕ))
hellos_from system p [] = []
hellos_from system p (port ∷ ports) = kept_hello system p port ∷ hellos_from system (p + 1) ports

-- the frame that is kept for each port with carrier is its hello, the ports that are kept as Up are those that are, the
-- address from which customers' frames are sent is the own, and the hellos that came last were judged each for its port
pub record FollowsPorts (m : Machine) : Type 0 where
  pub hellos : m.hellos.items ≡ hellos_from m.id.system 1 m.ports.items
  pub up : m.up ≡ up_from 1 m.ports.items
  pub me : m.tenant.me ≡ m.id.system.mac
  pub heard : AreJudged m.id.system m.heard.items

-- the bodies that are kept of own LSPs are what the bridge has to say, and so are the hellos
pub record IsCurrent (m : Machine) : Type 0 where
  pub own : m.own ≡ own_of (view_of m)
  pub ports : FollowsPorts m

-- a machine between two calls
pub record IsReady (m : Machine) : Type 0 where
  pub sound : IsSoundView (view_of m)
  pub current : IsCurrent m

-- it has at most 32 ports, and holds no more ids that aren't own numbers than have room
pub record CanOriginate (m : Machine) : Type 0 where
  pub few : length m.ports.items ≤ MOST_PORTS
  pub room : others m.id.system m.db ≤ most_others

-- a machine after a step: this is its bridge
pub record IsAfter (v : BridgeView) (m : Machine) : Type 0 where
  pub view : view_of m ≡ v
  pub current : IsCurrent m

-- a port of this number can come into a new state
pub record CanPut (p : ℕ) (new : BridgePort) (m : Machine) : Type 0 where
  pub port : IsPort (view_of m) p
  pub can : CanOriginate m
  pub current : IsCurrent m
  pub local : IsLocal (local_of (with_port_at p new (view_of m)))
  pub own_lsp : IsOwnLspCurrent (view_of m)

-- a port of this number came into a new state, and what is kept of the ports followed
pub record IsPut (p : ℕ) (new : BridgePort) (old m : Machine) : Type 0 where
  pub view : view_of m ≡ with_port_at p new (view_of old)
  pub own : m.own ≡ old.own
  pub ports : FollowsPorts m

-- the bridge says the same of itself with a port of this number in a new state
abbrev pub SaysTheSame : ℕ → BridgePort → Machine → Type 0
SaysTheSame p new m = bodies_of (with_port_at p new (view_of m)) ≡ bodies_of (view_of m)

-- a bridge that hears this at a port of this number, which has carrier
abbrev pub heard_by : Parsed → ℕ → Option BridgePort → BridgeView → BridgeView
heard_by j p None v = v
heard_by j p (Some port) v = heard_as j p port v

abbrev pub hears : Parsed → ℕ → BridgeView → BridgeView
hears j p v = heard_by j p (port_at v p) v
