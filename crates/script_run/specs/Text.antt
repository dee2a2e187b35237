-- What the lines of a script do.
use Rattle.std.specs.Prelude.{ℕ, ◌+◌, List, [], ◌∷◌, ◌++◌, Option, Some, None, ⊤}
use Rattle.scenario.specs.declared.command.Command.{Command}
use Rattle.scenario.specs.declared.cutter.Stop.{Stop}
use Rattle.scenario.specs.declared.cutter.Stop.TheVariants as stop
use Rattle.scenario.specs.Cutting.{Lines, longest_line, start, lines_of}
use Rattle.network_model.specs.State.{State}
use Rattle.script_run.specs.declared.refusal.Refusal.{Refusal}
use Rattle.script_run.specs.declared.refusal.Refusal.TheVariants.{Words}
use Rattle.script_run.specs.declared.status.Status.{Status}
use Rattle.script_run.specs.declared.status.Status.TheVariants.{Done, Refused, TooLong}
use Rattle.script_run.specs.declared.voice.Voice.{Voice}
use Rattle.script_run.specs.declared.voice.Voice.TheVariants.{Answers}
use Rattle.script_run.specs.Play.{Judged, misspelled_text, if_answers, judged}

-- what some lines do: the bytes that are written of them, by what is told, the status, faults and running out of memory
-- aside, and the network's state after those that are accepted
pub record Played : Type 0 where
  pub says : Voice → List ℕ
  pub status : Status
  pub state : State

-- a judged line, and the lines behind it, of which none is played where it is refused
abbrev pub joined : ℕ → Judged → Option Refusal → Played → Played
joined number line None rest = record {
  says = λ v. line.says v ++ rest.says v;
  status = rest.status;
  state = rest.state;
}
joined number line (Some why) rest = record { says = line.says; status = Refused number why; state = line.state }

-- behind the lines of a script. One that is too long is refused, with the number that it has and the column of its
-- first byte past the limit; where the script is too long, nothing more is written
abbrev pub concluded : State → ℕ → Option Stop → Played
concluded s number None = record { says = λ v. []; status = Done; state = s }
concluded s number (Some stop.Long) = record {
  says = λ v. if_answers v (misspelled_text number (longest_line + 1));
  status = Refused number (Words (longest_line + 1));
  state = s;
}
concluded s number (Some stop.Over) = record { says = λ v. []; status = TooLong; state = s }

-- lines from a state on, the first of which has this number, and why they end before the script does, if they do
abbrev pub play : State → ℕ → List (List ℕ) → Option Stop → Played
play s number [] end = concluded s number end
play s number (line ∷ rest) end =
    joined number (judged s number line) (judged s number line).refused
    (play (judged s number line).state (number + 1) rest end)

abbrev pub play_lines : State → ℕ → Lines → Played
play_lines s number lines = play s number lines.0 lines.1

-- the commands of a line, and of the lines behind it, of which none is played where it is refused
abbrev pub commands_joined : List Command → Option Refusal → List Command → List Command
commands_joined here None later = here ++ later
commands_joined here (Some why) later = here

-- the commands that lines play, in order, where the first line has this number
abbrev pub commands_in : State → ℕ → List (List ℕ) → List Command
commands_in s number [] = []
commands_in s number (line ∷ rest) =
    commands_joined (judged s number line).commands (judged s number line).refused
    (commands_in (judged s number line).state (number + 1) rest)

-- the lines of a script that are played unless one is refused: all of them, or those before the first that is too long,
-- or before the first byte that is past the limits of a script
abbrev pub lines_played : List ℕ → List (List ℕ)
lines_played script = (lines_of start script).0

-- what a script does
unfoldable pub played : State → List ℕ → Played
played s script = play_lines s 1 (lines_of start script)

-- the bytes that are written of a script, and those of the answers
abbrev pub said_in : Voice → State → List ℕ → List ℕ
said_in v s script = (played s script).says v

abbrev pub text_of : State → List ℕ → List ℕ
text_of = said_in Answers

-- the status of a script, faults and running out of memory aside
abbrev pub fate_of : State → List ℕ → Status
fate_of s script = (played s script).status

-- the state after the accepted lines of a script
abbrev pub end_of : State → List ℕ → State
end_of s script = (played s script).state

-- where a line is accepted this holds
abbrev pub IfAccepted : Option Refusal → Type 0 → Type 0
IfAccepted None holds = holds
IfAccepted (Some why) holds = ⊤

-- it holds of each state that an accepted line leaves, from a state on, where the first line has this number. Behind a
-- line that is refused none is played
abbrev pub AllStates : (State → Type 0) → State → ℕ → List (List ℕ) → Type 0
AllStates P s number [] = ⊤
AllStates P s number (line ∷ rest) = IfAccepted (judged s number line).refused
    (P (judged s number line).state × AllStates P (judged s number line).state (number + 1) rest)
