-- Service instances don't mix in a network: what leaves at a customer port of an I-SID has entered at one, byte for
-- byte.
use Rattle.std.specs.Prelude.{◌≡◌, ◌⊎◌, ℕ, List, [], ◌∷◌, ◌++◌, Some, None, slice_get}
use Rattle.std.specs.List.{AllByRecursion}
use Rattle.scenario.specs.declared.command.Command.{Command}
use Rattle.scenario.specs.declared.command.Command.TheVariants as command
use Rattle.spb_types.specs.declared.service.Isid.{Isid}
use Rattle.spb_types.specs.declared.link.Dir.{Dir}
use Rattle.link_model.specs.Lane.{Frame, IsIn}
use Rattle.link_model.specs.Lanes.{lane_of}
use Rattle.forwarding.specs.Laws.{IsAttachedTo}
use Rattle.forwarding.specs.Placed.{ArePlaced}
use Rattle.bridge_api.specs.View.{BridgeView}
use Rattle.bridge_api.specs.Customers.{tenant_of}
use Rattle.bridge_laws.specs.Apart.{Carries, CarriesEntered}
use Rattle.network_model.specs.declared.answer.Answer.{Answer}
use Rattle.network_model.specs.declared.answer.Answer.TheVariants.{Outs}
use Rattle.network_model.specs.declared.answer.Out.{Out}
use Rattle.spb_world.specs.World.{World, place_of, attached_at}
use Rattle.network_model.specs.State.{State}
use Rattle.network_model.specs.Refusing.{refusal_of}
use Rattle.network_model.specs.Sound.{IsSoundState}
use Rattle.network_model.specs.Play.{next_state, played_all, answer_of}
use Rattle.network_model.specs.SoundLaws.{Scene, opening_of, state_after}

-- ---- what has entered

-- a customer port of the bridge of this name is attached to an I-SID
pub record IsPortOf (w : World) (bridge : List ℕ) (port : ℕ) (isid : Isid) : Type 0 where
  pub place : ℕ
  pub named : place_of bridge w.bridges ≡ Some place
  pub attached : IsAttachedTo (attached_at w place) port isid

-- by a command a frame enters in the service of an I-SID: at a customer port that is attached to it at that moment
abbrev pub Enters : State → Command → Isid → List ℕ → Type 0
Enters s (command.Frame bridge port bytes) isid f = (bytes ≡ f) × IsPortOf s.world bridge port isid
Enters s _ isid f = ⊥

-- and so it did by one of these commands, of which the first is played from this state on
abbrev pub HasEntered : State → List Command → Isid → List ℕ → Type 0
HasEntered s [] isid f = ⊥
HasEntered s (c ∷ cs) isid f = Enters s c isid f ⊎ HasEntered (next_state s c) cs isid f

-- ---- what leaves

-- the customers' frames that an answer says to have left
abbrev pub outs_in : Answer → List Out
outs_in (Outs frames) = frames
outs_in _ = []

-- a frame left at a port that is attached to an I-SID in which it has entered
pub record LeftEntered (w : World) (Entered : Isid → List ℕ → Type 0) (out : Out) : Type 0 where
  pub isid : Isid
  pub attached : IsPortOf w out.bridge out.port isid
  pub entered : Entered isid out.frame

-- each frame that leaves in one more command leaves at a port that is attached at that moment to an I-SID, and in this
-- I-SID it entered by one of all these commands, byte for byte
abbrev pub LastLeavesEntered : State → List Command → Command → Type 0
LastLeavesEntered s cs c = let t : State = played_all s cs in
    AllByRecursion (LeftEntered t.world (HasEntered s (cs ++ c ∷ []))) (outs_in (answer_of t c))

-- so it is whatever commands were accepted, and one more, quiet or not
abbrev pub ServicesStayApart : Type 0
ServicesStayApart = (scene : Scene) (c : Command) → refusal_of (state_after scene) c ≡ None
    → LastLeavesEntered (opening_of scene) scene.commands c

-- a customer's frame leaves: in a command that is accepted after some others
pub record SomeFrameLeaves : Type 0 where
  pub scene : Scene
  pub last : Command
  pub accepted : refusal_of (state_after scene) last ≡ None
  pub out : Out
  pub leaves : outs_in (answer_of (state_after scene) last) ≡ out ∷ []

-- ---- what holds at every moment, for any word that says of a frame that it has entered

-- what the bridges have learned at customer ports they have learned at ports of the service
abbrev pub HavePlaces : List BridgeView → Type 0
HavePlaces views = (i : ℕ) (v : BridgeView) → slice_get views i ≡ Some v → ArePlaced (tenant_of v)

-- and each frame on its way carries what has entered
pub record IsApart (Entered : Isid → List ℕ → Type 0) (s : State) : Type 0 where
  pub lanes : (k : ℕ) (dir : Dir) → AllByRecursion (CarriesEntered Entered) (lane_of s.lanes k dir)
  pub places : HavePlaces s.views

-- a customer's frame is on its way over a link, in an I-SID
pub record IsOnItsWay (s : State) (isid : Isid) (f : List ℕ) : Type 0 where
  pub link : ℕ
  pub dir : Dir
  pub bytes : Frame
  pub among : IsIn bytes (lane_of s.lanes link dir)
  pub carried : Carries bytes isid f

-- it is on its way, or enters by a command
abbrev pub IsThere : State → Command → Isid → List ℕ → Type 0
IsThere s c isid f = IsOnItsWay s isid f ⊎ Enters s c isid f

-- nothing else is on its way after the command, and nothing else leaves in it
pub record IsKeptApart (s : State) (c : Command) : Type 0 where
  pub apart : IsApart (IsThere s c) (next_state s c)
  pub left : AllByRecursion (LeftEntered s.world (IsThere s c)) (outs_in (answer_of s c))

-- so it is of each accepted command
abbrev pub CommandsKeepApart : Type 0
CommandsKeepApart = (s : State) (c : Command) → IsSoundState s → refusal_of s c ≡ None → s.outs ≡ []
    → HavePlaces s.views → IsKeptApart s c
