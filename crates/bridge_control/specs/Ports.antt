use Rattle.std.specs.Prelude.{◌≡◌, ℕ, List, Bool, true, false, ◌&&◌, not, Some, slice_get}
use Rattle.std.specs.List.{AllByRecursion, list_any}
use Rattle.bridge_api.specs.declared.port.BridgePort.{BridgePort}
use Rattle.adjacency.specs.declared.port.Adjacency.{Adjacency}
use Rattle.adjacency.specs.declared.state.AdjState.TheVariants.{Up}
use Rattle.adjacency.specs.Adjacency.{is_down}
use Rattle.bridge_api.specs.Ticking.{later}
use Rattle.bridge_api.specs.Laws.{IsSoundPort}

-- each port is sound
abbrev pub AreSoundPorts : List BridgePort → Type 0
AreSoundPorts ports = AllByRecursion IsSoundPort ports

-- none of these ports has carrier
abbrev pub AreUnused : List BridgePort → Type 0
AreUnused ports = AllByRecursion (λ port. port.adjacency.carrier ≡ false) ports

-- two adjacencies in one state, with the same neighbour and circuit, at ports that both have carrier or both have none:
-- hellos say the same of them, and are sent of both or of neither
pub record IsSameEnd (a b : Adjacency) : Type 0 where
  pub carrier : b.carrier ≡ a.carrier
  pub state : b.state ≡ a.state
  pub neighbour : b.neighbour ≡ a.neighbour
  pub circuit : b.circuit ≡ a.circuit

-- a port with another holding count
abbrev pub with_hold : ℕ → BridgePort → BridgePort
with_hold hold port = record port { adjacency = record port.adjacency { hold = hold } }

-- no CSNPs are due at a port, and where it has carrier it is Up and keeps its neighbour for three seconds
pub record KeepsPort (port : BridgePort) : Type 0 where
  pub undue : port.csnp_due ≡ false
  pub kept : port.adjacency.carrier ≡ true → (port.adjacency.state ≡ Up) × (port.adjacency.hold ≡ 3)

-- so it is with each of these ports
abbrev pub KeepsEach : List BridgePort → Type 0
KeepsEach ports = (place : ℕ) (port : BridgePort) → slice_get ports place ≡ Some port → KeepsPort port

-- whether the neighbour at a port is lost in this second
abbrev pub loses : BridgePort → Bool
loses port = not (is_down port.adjacency.state) && is_down (later port).adjacency.state

-- whether one is lost at any port
abbrev pub has_lost : List BridgePort → Bool
has_lost ports = list_any loses ports
