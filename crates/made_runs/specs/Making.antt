-- What the form `make N` promises.
use Rattle.std.specs.Prelude.{◌≡◌, ℕ, List, [], ◌∷◌, ◌++◌, Option, Bool, IsTrue, ◌⊎◌}
use Rattle.std.specs.Io.KnownBytes.{Appends}
use Rattle.std.specs.List.{flat_map}
use Rattle.scenario.specs.declared.command.Command.{Command}
use Rattle.scenario.specs.Printing.{command_text}
use Rattle.scenario_maker.specs.Made.{made}
use Rattle.spb_network.specs.declared.network.NetworkOf.{NetworkOf}
use Rattle.script_run.specs.declared.status.Status.{Status}
use Rattle.script_run.specs.declared.status.Status.TheVariants.{Done, NoMemory, WriteFault}
use Rattle.script_run.specs.Output.{AppendsFront}
use Rattle.script_run.specs.Run.{is_cut}

-- the line of a command, with its end
abbrev pub line_text : Command → List ℕ
line_text command = command_text command ++ 10 ∷ []

-- the lines of some commands
abbrev pub script_text : List Command → List ℕ
script_text = flat_map line_text

-- the script that is made for n bridges
unfoldable pub made_text : ℕ → List ℕ
made_text n = script_text (made n)

module _ {B S K : Type 0} (holds : K → Option (List ℕ)) (is_reliable : K → Bool) where
  -- The script for so many bridges was written to the sink. It ended with this status; of the network, the source and
  -- the sink there is what each was before and what it is now.
  pub record Makes
      (bridges : ℕ) (status : Status)
      (network network' : NetworkOf B) (source source' : S) (sink sink' : K) : Type 0 where
    pub ends : (status ≡ Done) ⊎ (status ≡ NoMemory) ⊎ (status ≡ WriteFault)
    -- The whole script is written, or a front of it where that was cut short.
    pub text : status ≡ Done → Appends (holds sink) (holds sink') (made_text bridges)
    pub front : IsTrue (is_cut status) → AppendsFront (holds sink) (holds sink') (made_text bridges)
    -- Nothing is read or played.
    pub unread : source' ≡ source
    pub unplayed : network' ≡ network
    -- Over a sink that doesn't fail, only memory can run out.
    pub complete : IsTrue (is_reliable sink) → (status ≡ Done) ⊎ (status ≡ NoMemory)
