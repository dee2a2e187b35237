use Rattle.std.proofs.Common.{◌≡◌, ◌++◌, map, take, drop}
use Rattle.network_rounds.specs.Calm.{ticks_after}
use Rattle.spb_network.proofs.calm.count_seconds.Given as goal

abbrev pub invariant-loop-tick : goal.invariant-loop-tick
invariant-loop-tick l = l.tick-items ≡ map (ticks_after l.seconds) (take l.tick-index l.fn.ticks.items) ++ drop l.tick-index l.fn.ticks.items
