-- What is kept by so many rounds, one after another.
use Rattle.std.specs.Prelude.{ℕ, suc, ◌+◌, ◌*◌, ◌<◌, replicate}
use Rattle.scenario.specs.declared.command.Command.TheVariants as command
use Rattle.flooding.specs.Own.{last_number}
use Rattle.network_model.specs.State.{State}
use Rattle.network_model.specs.Events.{rounds}
use Rattle.network_model.specs.Play.{next_state, played_all}
use Rattle.network_model.specs.Sound.{IsSoundState}
use Rattle.network_model.specs.Counted.{IsCountedBy}
use Rattle.network_rounds.specs.Rounds.{AreRounds}

-- rounds one behind the other are such
abbrev pub RoundsAreRounds : Type 0
RoundsAreRounds = (k : ℕ) (s : State) → AreRounds k s (rounds k s)

-- so are those that one command makes, and those of so many commands of one round each
abbrev pub CommandsAreRounds : Type 0
CommandsAreRounds = (k : ℕ) (s : State) → AreRounds k s (next_state s (command.Round k))

abbrev pub SingleCommandsAreRounds : Type 0
SingleCommandsAreRounds = (k : ℕ) (s : State) → AreRounds k s (played_all s (replicate k (command.Round 1)))

-- what is sound stays so
abbrev pub RoundsStaySound : Type 0
RoundsStaySound = (k : ℕ) (s t : State) → AreRounds k s t → IsSoundState s → IsSoundState t

-- each round raises the sequence numbers by 128 at most, and what is held and on its way of each LSP still stems from
-- the bridge that originates it
abbrev pub RoundsStayCounted : Type 0
RoundsStayCounted = (k allowance : ℕ) (s t : State) → AreRounds k s t → IsSoundState s → IsCountedBy allowance s
    → allowance + 128 * k < last_number → IsCountedBy (allowance + 128 * k) t

-- so many rounds are some of them, and then the others
abbrev pub RoundsSplit : Type 0
RoundsSplit = (j k : ℕ) (s t : State) → AreRounds (j + k) s t → (u : State) × AreRounds j s u × AreRounds k u t

abbrev pub RoundsHaveLast : Type 0
RoundsHaveLast = (k : ℕ) (s t : State) → AreRounds (suc k) s t → (u : State) × AreRounds k s u × AreRounds 1 u t
