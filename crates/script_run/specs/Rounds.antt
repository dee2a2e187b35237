-- The `round` lines of a script end in quiet, where they are enough.
use Rattle.std.specs.Prelude.{List, [], ◌∷◌, ⊤}
use Rattle.scenario.specs.declared.command.Command.{Command}
use Rattle.network_model.specs.Play.{next_state}
use Rattle.network_model.specs.State.{State}
use Rattle.network_rounds.specs.SettlingLaws.{Settles}

-- each of these commands that is a `round` of 2(n - 1) + 6 to 4n + 16 rounds, n being the number of bridges at that
-- moment, ends in quiet, where the network is ready for 4n + 16 of them
abbrev pub AllRoundsSettle : State → List Command → Type 0
AllRoundsSettle s [] = ⊤
AllRoundsSettle s (c ∷ cs) = Settles s c (next_state s c) × AllRoundsSettle (next_state s c) cs
