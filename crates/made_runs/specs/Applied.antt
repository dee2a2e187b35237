-- What commands do, one after another, and what is counted of their answers.
use Rattle.std.specs.Prelude.{ℕ, ◌+◌, ◌==◌, List, [], ◌∷◌, length, Bool, true, false, ◌&&◌, if◌then◌else◌, Option, Some, None, min}
use Rattle.std.specs.Cmp.Lexicographic.{pointwise}
use Rattle.std.specs.List.{count_by, sum_by}
use Rattle.std.specs.Str.{bytes_eq}
use Rattle.spb_types.specs.declared.tables.UnicastRow.{UnicastRow}
use Rattle.spb_types.specs.declared.tables.GroupRow.{GroupRow}
use Rattle.spb_types.specs.declared.tables.Tables.{Tables}
use Rattle.scenario.specs.declared.command.Command.{Command}
use Rattle.network_model.specs.declared.answer.Answer.{Answer}
use Rattle.network_model.specs.declared.answer.Answer.TheVariants.{Show, Wiring}
use Rattle.spb_world.specs.declared.reason.Reason.{Reason}
use Rattle.network_model.specs.Isolation.{outs_in}
use Rattle.network_model.specs.Play.{next_state, answer_of}
use Rattle.network_model.specs.Refusing.{refusal_of}
use Rattle.network_model.specs.State.{State}
use Rattle.made_runs.specs.declared.counts.Counts.{Counts}

-- ---- Commands, one after another

-- the answers to commands, the first command that is refused with its number and the reason, and the network's state
-- after those before it
pub record Applied : Type 0 where
  pub answers : List Answer
  pub refused : Option (ℕ × Reason)
  pub state : State

-- a command, by the reason for which it is refused, and those behind it, of which none is applied then
abbrev pub applied_by : State → ℕ → Command → Option Reason → Applied → Applied
applied_by s number c (Some reason) rest = record { answers = []; refused = Some (number, reason); state = s }
applied_by s number c None rest = record rest { answers = answer_of s c ∷ rest.answers }

-- commands from a state on, the first of which has this number
abbrev pub applied : State → ℕ → List Command → Applied
applied s number [] = record { answers = []; refused = None; state = s }
applied s number (c ∷ rest) = applied_by s number c (refusal_of s c) (applied (next_state s c) (number + 1) rest)

-- ---- What is counted of answers

abbrev pub is_show : Answer → Bool
is_show (Show bridge quiet tables) = true
is_show answer = false

-- the same entry
abbrev pub is_same_unicast : UnicastRow → UnicastRow → Bool
is_same_unicast a b = (a.vid.value == b.vid.value) && bytes_eq a.mac.bytes b.mac.bytes && (a.port == b.port)

abbrev pub is_same_group : GroupRow → GroupRow → Bool
is_same_group a b = (a.vid.value == b.vid.value) && bytes_eq a.mac.bytes b.mac.bytes && (a.ports.bits == b.ports.bits)

-- the same entries, in the same order
unfoldable pub have_same_rows : Tables → Tables → Bool
have_same_rows a b = pointwise is_same_unicast a.unicast b.unicast && pointwise is_same_group a.group b.group

-- the tables of a `show` that says quiet
abbrev pub quiet_tables : Answer → Option Tables
quiet_tables (Show bridge true tables) = Some tables
quiet_tables answer = None

-- whether an answer is that of `wiring`, and has the rows of the `show` right before it, which said quiet
abbrev pub is_as_shown : Option Tables → Answer → Bool
is_as_shown (Some shown) (Wiring bridge wired) = have_same_rows shown wired
is_as_shown shown answer = false

-- how many answers are so, behind an answer with these tables or with none
abbrev pub same_behind : Option Tables → List Answer → ℕ
same_behind shown [] = 0
same_behind shown (answer ∷ rest) =
    (if is_as_shown shown answer then 1 else 0) + same_behind (quiet_tables answer) rest

-- how many customers' frames an answer tells of
abbrev pub outs_told : Answer → ℕ
outs_told answer = length (outs_in answer)

-- a number, or the greatest one of 64 bits where it is above that
abbrev pub in_64_bits : ℕ → ℕ
in_64_bits n = min n 18446744073709551615

-- the answers, the `show` answers, those that say quiet and have the rows of the `wiring` answer right behind them, and
-- the customers' frames that left
unfoldable pub counts_of : List Answer → Counts
counts_of answers = record {
  lines = length answers;
  shows = count_by is_show answers;
  same = same_behind None answers;
  outs = in_64_bits (sum_by outs_told answers);
}
