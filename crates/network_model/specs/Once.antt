-- A group frame that enters a quiet network leaves once at each other receiving port of its service that the network
-- can reach, and nowhere else.
use Rattle.std.specs.Prelude.{◌≡◌, ℕ, ◌≤◌, List, [], ◌∷◌, ◌++◌, length, count_by, Bool, true, ◌&&◌, ◌==◌, ◌<◌, Some, slice_get}
use Rattle.std.specs.List.{AllByRecursion}
use Rattle.std.specs.Str.{bytes_eq}
use Rattle.scenario.specs.declared.command.Command.{Command}
use Rattle.scenario.specs.declared.command.Command.TheVariants as command
use Rattle.spb_types.specs.declared.service.Isid.{Isid}
use Rattle.forwarding.specs.Laws.{IsAttachedTo}
use Rattle.forwarding.specs.Receiving.{IsReceivingTo}
use Rattle.forwarding.specs.Tenant.{is_group, to_of}
use Rattle.network_model.specs.declared.answer.Out.{Out}
use Rattle.spb_world.specs.World.{World, names_of, things_of, place_of, attached_at}
use Rattle.network_model.specs.State.{State}
use Rattle.network_model.specs.Questions.{is_question}
use Rattle.network_model.specs.Quiet.{IsQuiet, AreEmpty}
use Rattle.network_model.specs.Truth.{IsWalk}
use Rattle.network_model.specs.Play.{next_state, played_all, answer_of}
use Rattle.network_model.specs.Sound.{IsSoundState}
use Rattle.network_model.specs.SoundLaws.{AreAccepted, Scene, state_after, ForAllPlayedWithin}
use Rattle.network_model.specs.Counted.{IsCounted, most_commands}
use Rattle.network_model.specs.Isolation.{outs_in}

-- ---- where it has to leave

-- what is sent to an I-SID leaves at a customer port of the bridge at place c: at each that is attached to it and
-- receives
abbrev pub IsReceivingAt : World → ℕ → ℕ → Isid → Type 0
IsReceivingAt w c q isid = IsReceivingTo (attached_at w c) q isid

-- what enters at port p of the bridge at place b has to leave at port q of the bridge at place c: another port, where
-- what is sent to the I-SID of p leaves, of a bridge that a walk over links that are up joins to the first
pub record IsReach (w : World) (b p c q : ℕ) : Type 0 where
  pub isid : Isid
  pub here : IsAttachedTo (attached_at w b) p isid
  pub there : IsReceivingAt w c q isid
  pub walk : List ℕ
  pub joined : IsWalk (things_of w.links) b walk c
  pub other : ((c ≡ b) × (q ≡ p)) → ⊥

-- ---- what left

-- a frame left at this port of the bridge of this name
abbrev pub left_at : List ℕ → ℕ → Out → Bool
left_at name q out = bytes_eq out.bridge name && (out.port == q)

-- what left is the frame that entered, and it left where it has to
pub record IsRight (w : World) (b p : ℕ) (f : List ℕ) (out : Out) : Type 0 where
  pub place : ℕ
  pub named : place_of out.bridge w.bridges ≡ Some place
  pub reach : IsReach w b p place out.port
  pub frame : out.frame ≡ f

-- so is all that left, and at each port where it has to leave it left once
pub record IsOnce (w : World) (b p : ℕ) (f : List ℕ) (outs : List Out) : Type 0 where
  pub right : AllByRecursion (IsRight w b p f) outs
  pub once : (c q : ℕ) (name : List ℕ) → slice_get (names_of w.bridges) c ≡ Some name → IsReach w b p c q
      → count_by (left_at name q) outs ≡ 1

-- what leaves in commands, one after another, by their answers
abbrev pub outs_of : State → List Command → List Out
outs_of s [] = []
outs_of s (c ∷ cs) = outs_in (answer_of s c) ++ outs_of (next_state s c) cs

-- ---- the law

-- commands that deliver frames or ask something, and do nothing else
abbrev pub is_onward : Command → Bool
is_onward (command.Deliver name dir) = true
is_onward (command.Drain n) = true
is_onward c = is_question c

-- a frame enters, a list of octets whose destination is a group address (IEEE 802, the I/G bit); then frames are
-- delivered, in any order, until none is on its way, and questions are asked
pub record IsPassage (s : State) (name : List ℕ) (p : ℕ) (f : List ℕ) (cs : List Command) : Type 0 where
  pub octets : AllByRecursion (λ b. b < 256) f
  pub group : is_group (to_of f) ≡ true
  pub onward : AllByRecursion (λ c. is_onward c ≡ true) cs
  pub accepted : AreAccepted s (command.Frame name p f ∷ cs)
  pub delivered : AreEmpty (played_all s (command.Frame name p f ∷ cs))

-- then it leaves where it has to, once
abbrev pub LeavesOnce : State → Type 0
LeavesOnce s = (name : List ℕ) (b p : ℕ) (f : List ℕ) (cs : List Command)
    → place_of name s.world.bridges ≡ Some b → IsPassage s name p f cs
    → IsOnce s.world b p f (outs_of s (command.Frame name p f ∷ cs))

-- so it is in each sound network that is quiet and whose sequence numbers are counted, between commands
abbrev pub ExactlyOnce : Type 0
ExactlyOnce = (s : State) → IsSoundState s → IsCounted s → IsQuiet s → s.outs ≡ [] → LeavesOnce s

-- and so whatever commands were accepted, wherever the network is quiet
abbrev pub NetworksDeliverOnce : Type 0
NetworksDeliverOnce = ForAllPlayedWithin most_commands (λ s. IsQuiet s → LeavesOnce s)

-- some commands lead to a quiet network, into which a group frame comes that has to leave at two ports
pub record SomeFramePasses : Type 0 where
  pub scene : Scene
  pub few : length scene.commands ≤ most_commands
  pub quiet : IsQuiet (state_after scene)
  pub name : List ℕ
  pub place : ℕ
  pub port : ℕ
  pub frame : List ℕ
  pub more : List Command
  pub named : place_of name (state_after scene).world.bridges ≡ Some place
  pub passes : IsPassage (state_after scene) name port frame more
  pub first : IsReach (state_after scene).world place port place 2
  pub second : IsReach (state_after scene).world place port place 3
