-- What one line of a script does.
use Rattle.std.specs.Prelude.{ℕ, List, [], ◌∷◌, flat_map, Option, Some, None, Result, Ok, Err, codes}
use Rattle.frame_capture.specs.Capture.{packet_bytes}
use Rattle.report.specs.Lines.{error_text}
use Rattle.scenario.specs.declared.command.Command.{Command}
use Rattle.scenario.specs.declared.extra.Extra.{Extra}
use Rattle.scenario.specs.declared.extra.Extra.TheVariants.{Settle}
use Rattle.scenario.specs.Extras.{extra_of}
use Rattle.scenario.specs.Grammar.{line_of}
use Rattle.extra_answers.specs.Answers.{extra_text}
use Rattle.extra_answers.specs.Refusing.{extra_refusal}
use Rattle.spb_world.specs.declared.reason.Reason.{Reason}
use Rattle.network_model.specs.declared.delivered.Delivered.{Delivered}
use Rattle.network_model.specs.Captured.{seen_of, captured}
use Rattle.network_model.specs.Play.{next_state, answer_of}
use Rattle.spb_world.specs.Reason.{reason_number, name_of}
use Rattle.network_model.specs.Refusing.{refusal_of}
use Rattle.network_model.specs.State.{State}
use Rattle.network_rounds.specs.Settling.{settling, settled, settle_refusal}
use Rattle.script_run.specs.Answer.{text_of_answer, text_of_settling}
use Rattle.script_run.specs.declared.voice.Voice.{Voice}
use Rattle.script_run.specs.declared.voice.Voice.TheVariants.{Answers, Packets}
use Rattle.script_run.specs.declared.refusal.Refusal.{Refusal}
use Rattle.script_run.specs.declared.refusal.Refusal.TheVariants as refusal

-- a line judged: the bytes that are written of it, by what is told of the script, why it is refused where it is, the
-- commands that it plays, and the network's state after it
pub record Judged : Type 0 where
  pub says : Voice → List ℕ
  pub refused : Option Refusal
  pub commands : List Command
  pub state : State

-- what is written of a line that is outside the grammar at a column
abbrev pub misspelled_text : ℕ → ℕ → List ℕ
misspelled_text number column = error_text number 1 (codes "Words") (Some column)

-- of a line that is refused its `error` line is an answer, and there is no packet
abbrev pub if_answers : Voice → List ℕ → List ℕ
if_answers Answers text = text
if_answers Packets text = []

-- a line that is outside the grammar at a column
abbrev pub misspelled : State → ℕ → ℕ → Judged
misspelled s number column = record {
  says = λ v. if_answers v (misspelled_text number column);
  refused = Some (refusal.Words column);
  commands = [];
  state = s;
}

-- the packet of a delivery, and those of some deliveries, in order
abbrev pub packet_of : Delivered → List ℕ
packet_of d = packet_bytes (record { tick = d.tick; frame = d.frame })

abbrev pub packets_of : List Delivered → List ℕ
packets_of ds = flat_map packet_of ds

-- what is written of a command that is accepted
abbrev pub said_of : Voice → State → Command → List ℕ
said_of Answers s command = text_of_answer (answer_of s command)
said_of Packets s command = packets_of (seen_of s command)

-- a line that gives a command or asks a question, and is refused for a reason
abbrev pub refused_for : State → ℕ → Reason → Judged
refused_for s number reason = record {
  says = λ v. if_answers v (error_text number (reason_number reason) (name_of reason) None);
  refused = Some (refusal.Command reason);
  commands = [];
  state = s;
}

-- a command, by the reason for which it is refused
abbrev pub judged_by : State → ℕ → Command → Option Reason → Judged
judged_by s number command (Some reason) = refused_for s number reason
judged_by s number command None = record {
  says = λ v. said_of v s command;
  refused = None;
  commands = command ∷ [];
  state = next_state s command;
}

-- a question that changes nothing, by the reason for which it is refused: the answer to it is written, no packet is,
-- and no command is played
abbrev pub judged_extra : State → ℕ → Extra → Option Reason → Judged
judged_extra s number extra (Some reason) = refused_for s number reason
judged_extra s number extra None = record {
  says = λ v. if_answers v (extra_text s.world extra);
  refused = None;
  commands = [];
  state = s;
}

-- what is written of settling that isn't refused: its answer, or the packets of what its rounds deliver
abbrev pub said_of_settling : Voice → State → List ℕ
said_of_settling Answers s = text_of_settling s
said_of_settling Packets s = packets_of (captured s (settling s))

-- settling, by the reason for which it is refused: it plays single rounds, each as a command, and leaves the state
-- after them
abbrev pub judged_settle : State → ℕ → Option Reason → Judged
judged_settle s number (Some reason) = refused_for s number reason
judged_settle s number None = record {
  says = λ v. said_of_settling v s;
  refused = None;
  commands = settling s;
  state = settled s;
}

-- a line, by what it was read as among commands
abbrev pub judged_as : State → ℕ → Result (Option Command) ℕ → Judged
judged_as s number (Err column) = misspelled s number column
judged_as s number (Ok None) = record { says = λ v. []; refused = None; commands = []; state = s }
judged_as s number (Ok (Some command)) = judged_by s number command (refusal_of s command)

-- what asks for something and is no command: settling, or a question that changes nothing
abbrev pub judged_asked : State → ℕ → Extra → Judged
judged_asked s number Settle = judged_settle s number (settle_refusal s)
judged_asked s number extra = judged_extra s number extra (extra_refusal s.world extra)

-- a line, by what it was read as among these; where it is none of them, it is read as a command
abbrev pub judged_line : State → ℕ → List ℕ → Result (Option Extra) ℕ → Judged
judged_line s number line (Err column) = misspelled s number column
judged_line s number line (Ok (Some extra)) = judged_asked s number extra
judged_line s number line (Ok None) = judged_as s number (line_of line)

-- the line of this number, counted from 1, without its end
unfoldable pub judged : State → ℕ → List ℕ → Judged
judged s number line = judged_line s number line (extra_of line)
