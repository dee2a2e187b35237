-- The laws of a network: it is sound at every moment.
use Rattle.std.specs.Prelude.{◌≡◌, ℕ, ◌<◌, ◌≤◌, List, [], ◌∷◌, length, true, None, ⊤}
use Rattle.link_model.specs.Lane.{Frame}
use Rattle.isis_pdu.specs.Pdu.{HelloValue}
use Rattle.spb_tlvs.specs.declared.three_way.ThreeWay.{ThreeWay}
use Rattle.scenario.specs.declared.command.Command.{Command}
use Rattle.spb_types.specs.declared.service.Mode.{Mode}
use Rattle.spb_types.specs.declared.link.Dir.{Dir}
use Rattle.spb_types.specs.declared.link.Dir.TheVariants.{Ab}
use Rattle.spb_types.specs.declared.link.Side.{Side}
use Rattle.bridge_api.specs.Config.{IsMetric}
use Rattle.bridge_api.specs.Parsing.{parsed}
use Rattle.bridge_api.specs.Parsing as parsing
use Rattle.network_model.specs.declared.kind_rule.KindRule.{KindRule}
use Rattle.link_model.specs.Lanes.{lane_of}
use Rattle.spb_world.specs.Attaching.{attach_refusal, detach_refusal, entry_refusal}
use Rattle.network_model.specs.State.{State, Spare, links_of}
use Rattle.spb_world.specs.Links.{is_live}
use Rattle.network_model.specs.Events.{ticked, delivered, lost, doubled, with_metric_changed, port_attached, port_detached, frame_entered, switched_off, switched_on, rounds, drained}
use Rattle.network_model.specs.Restarting.{restarted}
use Rattle.network_model.specs.Refusing.{refusal_of}
use Rattle.network_model.specs.Play.{next_state, played_all}
use Rattle.network_model.specs.Sound.{IsSoundState, opening}

-- ---- the events

abbrev pub Keeps : (State → State) → Type 0
Keeps event = (s : State) → IsSoundState s → IsSoundState (event s)

-- a customer port of the bridge at place i may be attached to the service of an I-SID, or detached
abbrev pub MayAttach : ℕ → ℕ → ℕ → State → Type 0
MayAttach i port isid s = (i < length s.world.bridges) × (attach_refusal s.world i port isid ≡ None)

abbrev pub MayDetach : ℕ → ℕ → State → Type 0
MayDetach i port s = detach_refusal s.world i port ≡ None

-- a customer's frame may enter at a customer port of the bridge at place i
abbrev pub MayEnter : ℕ → ℕ → List ℕ → State → Type 0
MayEnter i port bytes s = entry_refusal s.world i port bytes ≡ None

abbrev pub KeepsWhere : (State → Type 0) → (State → State) → Type 0
KeepsWhere may event = (s : State) → may s → IsSoundState s → IsSoundState (event s)

-- a tick of any bridge, a delivery from any lane, a frame that is lost or doubled, an end of a link that gets another
-- metric, a customer port that is attached or detached, a customer's frame that enters, a link that goes down or comes
-- up, a bridge that restarts, rounds and deliveries in any number
pub record EventsKeepSound : Type 0 where
  pub tick : (i : ℕ) → Keeps (λ s. ticked s i)
  pub deliver : (k : ℕ) (dir : Dir) → Keeps (λ s. delivered s k dir)
  pub lose : (k : ℕ) (dir : Dir) (place : ℕ) → Keeps (λ s. lost s k dir place)
  pub double : (k : ℕ) (dir : Dir) (place : ℕ) → Keeps (λ s. doubled s k dir place)
  pub metric : (k : ℕ) (side : Side) (m : ℕ) → IsMetric m → Keeps (λ s. with_metric_changed s k side m)
  pub attach : (i port isid : ℕ) (mode : Mode)
      → KeepsWhere (MayAttach i port isid) (λ s. port_attached s i port isid mode)
  pub detach : (i port : ℕ) → KeepsWhere (MayDetach i port) (λ s. port_detached s i port)
  pub enter : (i port : ℕ) (bytes : List ℕ) → KeepsWhere (MayEnter i port bytes) (λ s. frame_entered s i port bytes)
  pub down : (k : ℕ) → Keeps (λ s. switched_off s k)
  pub up : (k : ℕ) → Keeps (λ s. switched_on s k)
  pub restart : (i : ℕ) → Keeps (λ s. restarted s i)
  pub round : (n : ℕ) → Keeps (rounds n)
  pub drain : (n : ℕ) → Keeps (drained n)

-- ---- the commands

-- a command that isn't refused leaves the network sound
abbrev pub CommandsKeepSound : Type 0
CommandsKeepSound = (s : State) (c : Command) → IsSoundState s → refusal_of s c ≡ None → IsSoundState (next_state s c)

-- each of the commands is accepted, one after another
abbrev pub AreAccepted : State → List Command → Type 0
AreAccepted s [] = ⊤
AreAccepted s (c ∷ cs) = (refusal_of s c ≡ None) × AreAccepted (next_state s c) cs

-- commands that are accepted, one after another, where at first nothing is declared, by any rule and with any rack
pub record Scene : Type 0 where
  pub rule : KindRule
  pub rack : List Spare
  pub commands : List Command
  pub accepted : AreAccepted (opening rule rack) commands

-- the network before the first of them
abbrev pub opening_of : Scene → State
opening_of scene = opening scene.rule scene.rack

-- and the one that they lead to
abbrev pub state_after : Scene → State
state_after scene = played_all (opening_of scene) scene.commands

-- P holds of the network whatever commands were accepted
abbrev pub ForAllPlayed : (State → Type 0) → Type 0
ForAllPlayed P = (scene : Scene) → P (state_after scene)

-- so it does where they are at most so many
abbrev pub ForAllPlayedWithin : ℕ → (State → Type 0) → Type 0
ForAllPlayedWithin most P = (scene : Scene) → length scene.commands ≤ most → P (state_after scene)

-- whatever commands were accepted, the network is sound
abbrev pub NetworksAreSound : Type 0
NetworksAreSound = ForAllPlayed IsSoundState

-- a link is up, and a frame is on its way over it that is heard as a hello
pub record IsBusy (s : State) : Type 0 where
  pub live : is_live (links_of s) 0 ≡ true
  pub bytes : Frame
  pub waiting : lane_of s.lanes 0 Ab ≡ bytes ∷ []
  pub hello : HelloValue
  pub way : ThreeWay
  pub heard : parsed bytes ≡ parsing.hello hello way

-- some commands lead to such a network
pub record SomeNetworkIsBusy : Type 0 where
  pub scene : Scene
  pub busy : IsBusy (state_after scene)
