-- What a second that passes in calm is for one bridge, and what it sends in it.
use Rattle.std.specs.Prelude.{◌≡◌, ℕ, ◌+◌, List, [], ◌∷◌, true, false, Some}
use Rattle.isis_pdu.specs.Pdu.{HelloValue}
use Rattle.spb_tlvs.specs.RoundTrip.{IsNamed}
use Rattle.spb_tlvs.specs.declared.three_way.ThreeWay.{ThreeWay}
use Rattle.adjacency.specs.Hearing.{sender, keeps_up}
use Rattle.bridge_api.specs.View.{BridgeView, IsPort, neighbour_at, is_up_at, has_carrier_at}
use Rattle.bridge_api.specs.Parsing.{parsed}
use Rattle.bridge_api.specs.Parsing as parsing
use Rattle.bridge_api.specs.Step.{second, sent, frames_at}
use Rattle.bridge_api.specs.Laws.{IsSoundView}
use Rattle.bridge_api.specs.Calm.{IsCalmFor, aged_by}
use Rattle.bridge_rounds.specs.Inbox.{Inbox, after_round}

-- a hello of the neighbour that is kept at a port, which names this port and keeps it Up (RFC 5303, 3.2)
pub record IsGreeting (v : BridgeView) (p : ℕ) (bytes : List ℕ) : Type 0 where
  pub hello : HelloValue
  pub way : ThreeWay
  pub parses : parsed bytes ≡ parsing.hello hello way
  pub holding : hello.holding ≡ 3
  pub neighbour : neighbour_at v p ≡ Some (sender hello way)
  pub keeps : keeps_up v.id.system p hello way ≡ true

-- at each port with carrier one such hello comes, and nothing else, and at no other port anything
pub record IsGreeted (v : BridgeView) (fs : Inbox) : Type 0 where
  pub carrier : (p : ℕ) → IsPort v p → has_carrier_at v p ≡ true
      → (bytes : List ℕ) × (frames_at p fs ≡ bytes ∷ []) × IsGreeting v p bytes
  pub others : (p : ℕ) → has_carrier_at v p ≡ false → frames_at p fs ≡ []

-- a round that passes in calm leaves the bridge one second older
abbrev pub CalmRoundAges : Type 0
CalmRoundAges = (v : BridgeView) (fs : Inbox) → IsSoundView v → IsCalmFor 1 v → IsGreeted v fs
    → after_round fs v ≡ aged_by 1 v

-- in it the bridge sends a hello at each port with carrier, in which it names its neighbour and says that it is Up, and
-- nothing else, where the neighbour can be named: a circuit id of four bytes
pub record IsGreetingOf (v : BridgeView) (p : ℕ) (bytes : List ℕ) : Type 0 where
  pub hello : HelloValue
  pub way : ThreeWay
  pub parses : parsed bytes ≡ parsing.hello hello way
  pub level : hello.circuit_type ≡ 1
  pub holding : hello.holding ≡ 3
  pub sender : sender hello way ≡ (v.id.system, p)
  pub up : way.state ≡ 0
  pub named : way.neighbour ≡ neighbour_at v p

abbrev pub CalmSecondGreets : Type 0
CalmSecondGreets = (v : BridgeView) (p : ℕ) → IsSoundView v → IsCalmFor 1 v → IsPort v p → has_carrier_at v p ≡ true
    → IsNamed (neighbour_at v p)
    → (bytes : List ℕ) × (frames_at p (sent second v) ≡ bytes ∷ []) × IsGreetingOf v p bytes

-- and at no other port
abbrev pub CalmSecondIsSilent : Type 0
CalmSecondIsSilent = (v : BridgeView) (p : ℕ) → IsSoundView v → IsCalmFor 1 v → has_carrier_at v p ≡ false
    → frames_at p (sent second v) ≡ []

-- where so many seconds pass in calm, the first of them do, and then the others
abbrev pub CalmGoesOn : Type 0
CalmGoesOn = (v : BridgeView) (j k : ℕ) → IsCalmFor (j + k) v → IsCalmFor j v × IsCalmFor k (aged_by j v)

-- which are seconds of one and the same time
abbrev pub AgesAdd : Type 0
AgesAdd = (v : BridgeView) (j k : ℕ) → aged_by k (aged_by j v) ≡ aged_by (j + k) v

-- some sound bridge with an Up port passes a second in calm when it is greeted
pub record SomeBridgeIsCalm : Type 0 where
  pub view : BridgeView
  pub inbox : Inbox
  pub sound : IsSoundView view
  pub calm : IsCalmFor 1 view
  pub greeted : IsGreeted view inbox
  pub up : is_up_at view 1 ≡ true
