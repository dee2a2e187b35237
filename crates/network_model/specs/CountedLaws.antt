-- The laws of sequence numbers in a network: they stay within bounds that no number of frames can move.
use Rattle.std.specs.Prelude.{◌≡◌, ℕ, ◌+◌, ◌*◌, ◌≤◌, ◌<◌, List, false, Option, Some, None, slice_get}
use Rattle.spb_types.specs.declared.service.Mode.{Mode}
use Rattle.spb_types.specs.declared.address.LspId.{LspId}
use Rattle.spb_types.specs.declared.link.Dir.{Dir}
use Rattle.spb_types.specs.declared.link.Side.{Side}
use Rattle.spb_types.specs.declared.ports.PortSet.{PortSet}
use Rattle.link_model.specs.Lane.{Frame, IsIn}
use Rattle.link_model.specs.Lanes.{lane_of}
use Rattle.scenario.specs.declared.command.Command.{Command}
use Rattle.lsdb.specs.declared.version.Version.{Version}
use Rattle.lsdb.specs.declared.version.Relation.{Relation}
use Rattle.lsdb.specs.Entry.{Entry}
use Rattle.lsdb.specs.Version.{number_of}
use Rattle.lsdb.specs.Certificate.{Claim}
use Rattle.flooding.specs.Own.{last_number}
use Rattle.flooding.specs.Hearing.{is_full}
use Rattle.bridge_api.specs.Config.{IsMetric}
use Rattle.bridge_laws.specs.Counting.{IsFar}
use Rattle.bridge_api.specs.Own.{holding_of}
use Rattle.bridge_api.specs.Step.{frame}
use Rattle.bridge_api.specs.View.{BridgeView}
use Rattle.spb_world.specs.declared.declaration.DeclaredLink.{DeclaredLink}
use Rattle.network_model.specs.State.{State, links_of}
use Rattle.spb_world.specs.Links.{far_end}
use Rattle.network_model.specs.Events.{ticked, delivered, lost, doubled, with_metric_changed, port_attached, port_detached, frame_entered, switched_off, switched_on, rounds, drained}
use Rattle.network_model.specs.Restarting.{restarted}
use Rattle.network_model.specs.Refusing.{refusal_of}
use Rattle.network_model.specs.Play.{next_state}
use Rattle.network_model.specs.Sound.{IsSoundState}
use Rattle.network_model.specs.SoundLaws.{MayAttach, MayDetach, MayEnter, ForAllPlayedWithin, IsBusy}
use Rattle.network_model.specs.Copies.{HaveOneBody}
use Rattle.network_model.specs.Counted.{IsCopy, IsCountedBy, IsCounted, most_commands}

-- ---- the events

-- an event raises the allowance, within which the numbers are, by at most so much, where it stays below the last number
abbrev pub Raises : ℕ → (State → State) → Type 0
Raises more event = (s : State) (allowance : ℕ) → IsSoundState s → IsCountedBy allowance s
    → allowance + more < last_number → IsCountedBy (allowance + more) (event s)

-- so it does where it may
abbrev pub RaisesWhere : ℕ → (State → Type 0) → (State → State) → Type 0
RaisesWhere more may event = (s : State) (allowance : ℕ) → may s → IsSoundState s → IsCountedBy allowance s
    → allowance + more < last_number → IsCountedBy (allowance + more) (event s)

-- a tick takes the numbers of its bridge one further, or sends one hello more to another, for which the allowance has
-- room from then on; all ticks of a round together raise it by at most 128. Deliveries, losses and customers' frames
-- that enter raise it by nothing, in any number: where a hello is heard, a number may rise, within the room for it
pub record EventsKeepCounted : Type 0 where
  pub tick : (i : ℕ) → Raises 2 (λ s. ticked s i)
  pub deliver : (k : ℕ) (dir : Dir) → Raises 0 (λ s. delivered s k dir)
  pub lose : (k : ℕ) (dir : Dir) (place : ℕ) → Raises 0 (λ s. lost s k dir place)
  pub double : (k : ℕ) (dir : Dir) (place : ℕ) → Raises 1 (λ s. doubled s k dir place)
  pub metric : (k : ℕ) (side : Side) (m : ℕ) → IsMetric m → Raises 2 (λ s. with_metric_changed s k side m)
  pub attach : (i port isid : ℕ) (mode : Mode)
      → RaisesWhere 2 (MayAttach i port isid) (λ s. port_attached s i port isid mode)
  pub detach : (i port : ℕ) → RaisesWhere 2 (MayDetach i port) (λ s. port_detached s i port)
  pub enter : (i port : ℕ) (bytes : List ℕ) → RaisesWhere 0 (MayEnter i port bytes) (λ s. frame_entered s i port bytes)
  pub down : (k : ℕ) → Raises 2 (λ s. switched_off s k)
  pub up : (k : ℕ) → Raises 1 (λ s. switched_on s k)
  pub restart : (i : ℕ) → Raises 2 (λ s. restarted s i)
  pub round : (n : ℕ) → Raises (128 * n) (rounds n)
  pub drain : (n : ℕ) → Raises 0 (drained n)

-- ---- the commands

-- a command that isn't refused, of so many at most, leaves the numbers within what they are allowed
abbrev pub CommandsKeepCounted : Type 0
CommandsKeepCounted = (s : State) (c : Command) → IsSoundState s → IsCounted s → s.accepted < most_commands
    → refusal_of s c ≡ None → IsCounted (next_state s c)

-- so it is whatever commands were accepted
abbrev pub NetworksAreCounted : Type 0
NetworksAreCounted = ForAllPlayedWithin most_commands IsCounted

-- ---- what follows

-- no version that is held by anybody, or claimed in a frame on its way, has a number above 2,800,000
abbrev pub NumbersStayLow : Type 0
NumbersStayLow = (s : State) (id : LspId) (a : Version) → IsSoundState s → IsCounted s → s.accepted ≤ most_commands
    → IsCopy s.views s.lanes id a → number_of a ≤ 2800000

-- so no frame on its way brings a bridge near the last number
abbrev pub BridgesStayFar : Type 0
BridgesStayFar = (s : State) (k : ℕ) (dir : Dir) (l : DeclaredLink) (v : BridgeView) (bytes : Frame)
    → IsSoundState s → IsCounted s → s.accepted ≤ most_commands → slice_get (links_of s) k ≡ Some l
    → IsIn bytes (lane_of s.lanes k dir) → slice_get s.views (far_end dir l).bridge ≡ Some v
    → IsFar (frame (far_end dir l).port bytes) v

-- and there is a place for whatever is claimed, by whatever rule it is heard
abbrev pub NothingIsFull : Type 0
NothingIsFull = (s : State) (i : ℕ) (v : BridgeView) (rule : Relation → Option Entry → Option Entry) (up : PortSet)
    (c : Claim) → IsSoundState s → IsCounted s → slice_get s.views i ≡ Some v → is_full rule up c (holding_of v) ≡ false

-- so no two bridges hold different bodies of an LSP under one live version
abbrev pub OriginsGiveOneBody : Type 0
OriginsGiveOneBody = (s : State) → IsSoundState s → IsCounted s → HaveOneBody s

-- some network in which a frame is on its way is such a one
pub record SomeCountedIsBusy : Type 0 where
  pub state : State
  pub sound : IsSoundState state
  pub counted : IsCounted state
  pub few : state.accepted ≤ most_commands
  pub busy : IsBusy state
