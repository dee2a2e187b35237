-- Lines play commands, of which each is accepted, and what leaves by them has entered the same service. In a quiet
-- network it leaves exactly once where it has to.
use Rattle.std.specs.Prelude.{◌≡◌, ℕ, List, ◌∷◌, ◌++◌, true, Option, Some}
use Rattle.std.specs.List.{AllByRecursion}
use Rattle.scenario.specs.declared.command.Command.{Command}
use Rattle.scenario.specs.declared.command.Command.TheVariants as command
use Rattle.scenario.specs.declared.cutter.Stop.{Stop}
use Rattle.forwarding.specs.Tenant.{is_group, to_of}
use Rattle.network_model.specs.Isolation.{LastLeavesEntered}
use Rattle.network_model.specs.Once.{is_onward, outs_of, IsOnce}
use Rattle.network_model.specs.Play.{played_all}
use Rattle.network_model.specs.Quiet.{IsQuiet, AreEmpty}
use Rattle.network_model.specs.SoundLaws.{AreAccepted}
use Rattle.network_model.specs.State.{State}
use Rattle.spb_world.specs.World.{place_of}
use Rattle.script_run.specs.Text.{play, commands_in}

-- the commands that lines play are accepted, one after another, and the state after the lines is the one after them,
-- however they end
pub record PlaysCommands (s : State) (number : ℕ) (lines : List (List ℕ)) : Type 0 where
  pub accepted : AreAccepted s (commands_in s number lines)
  pub state : (end : Option Stop) → (play s number lines end).state ≡ played_all s (commands_in s number lines)

-- so it is with all lines from any state on, whatever number the first line has
abbrev pub LinesPlayCommands : Type 0
LinesPlayCommands = (s : State) (number : ℕ) (lines : List (List ℕ)) → PlaysCommands s number lines

-- each frame that leaves in one of these commands leaves at a port that is attached at that moment to an I-SID, and in
-- this I-SID it entered by that command or one before it, byte for byte
abbrev pub AllLeaveEntered : State → List Command → Type 0
AllLeaveEntered s commands = (before : List Command) (c : Command) (later : List Command)
    → commands ≡ before ++ c ∷ later → LastLeavesEntered s before c

-- Of these commands some lead to a quiet network, the next one lets a frame to a group address enter, and the ones
-- behind it deliver frames and ask questions alone, until no frame is on its way: then the frame leaves once at each
-- other port where it has to, and nowhere else.
abbrev pub AllDeliverOnce : State → List Command → Type 0
AllDeliverOnce s commands = (before onward later : List Command) (name : List ℕ) (b p : ℕ) (f : List ℕ)
    → commands ≡ before ++ command.Frame name p f ∷ onward ++ later
    → IsQuiet (played_all s before) → is_group (to_of f) ≡ true → AllByRecursion (λ c. is_onward c ≡ true) onward
    → AreEmpty (played_all (played_all s before) (command.Frame name p f ∷ onward))
    → place_of name (played_all s before).world.bridges ≡ Some b
    → IsOnce (played_all s before).world b p f (outs_of (played_all s before) (command.Frame name p f ∷ onward))
