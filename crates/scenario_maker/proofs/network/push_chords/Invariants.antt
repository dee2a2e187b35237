use Rattle.std.proofs.Common.{◌≡◌, ◌++◌, map}
use Rattle.scenario_maker.specs.Made.{numbers, nth_chord}
use Rattle.scenario_maker.proofs.network.push_chords.Given as goal

abbrev pub invariant-chords : goal.invariant-chords
invariant-chords l = l.script.items ≡ l.initial.script.items ++ map (nth_chord l.n) (numbers l.place)
