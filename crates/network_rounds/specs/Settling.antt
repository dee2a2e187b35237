-- Settling: single rounds until a network is quiet, at most as many as its bridges allow.
use Rattle.std.specs.Prelude.{ℕ, zero, suc, ◌+◌, ◌*◌, List, [], ◌∷◌, ◌++◌, length, replicate, nat_le, Option, if◌then◌else◌}
use Rattle.scenario.specs.declared.command.Command.{Command}
use Rattle.scenario.specs.declared.command.Command.TheVariants as command
use Rattle.spb_types.specs.declared.limits.TheConstants.{MOST_ROUNDS}
use Rattle.spb_world.specs.declared.reason.Reason.{Reason}
use Rattle.spb_world.specs.declared.reason.Reason.TheVariants.{TooMany}
use Rattle.spb_world.specs.Reason.{reason_unless}
use Rattle.network_model.specs.declared.answer.Out.{Out}
use Rattle.network_model.specs.State.{State}
use Rattle.network_model.specs.Questions.{is_quiet}
use Rattle.network_model.specs.Play.{next_state, answer_of, played_all}
use Rattle.network_model.specs.Isolation.{outs_in}

-- the rounds that so many bridges are given
abbrev pub settling_bound : ℕ → ℕ
settling_bound bridges = 4 * bridges + 16

abbrev pub most_settling : State → ℕ
most_settling s = settling_bound (length s.views)

-- how many single rounds it takes until a network is quiet, of so many at most: the least such number, or all of them
abbrev pub rounds_made : ℕ → State → ℕ
rounds_made zero s = 0
rounds_made (suc m) s = if is_quiet s then 0 else suc (rounds_made m (next_state s (command.Round 1)))

-- the commands of settling
abbrev pub settling : State → List Command
settling s = replicate (rounds_made (most_settling s) s) (command.Round 1)

-- the customers' frames that leave in commands, in order
abbrev pub outs_of : State → List Command → List Out
outs_of s [] = []
outs_of s (c ∷ cs) = outs_in (answer_of s c) ++ outs_of (next_state s c) cs

-- the state after settling
abbrev pub settled : State → State
settled s = played_all s (settling s)

-- it is refused where the rounds so far and all that it may make are too many
unfoldable pub settle_refusal : State → Option Reason
settle_refusal s = reason_unless (nat_le (s.rounds + most_settling s) MOST_ROUNDS) TooMany
