use Rattle.std.proofs.Common.{◌≡◌, ◌++◌, map}
use Rattle.scenario_maker.specs.Made.{numbers, ring_link}
use Rattle.scenario_maker.proofs.network.push_ring.Given as goal

abbrev pub invariant-ring : goal.invariant-ring
invariant-ring l = l.script.items ≡ l.initial.script.items ++ map (ring_link l.n) (numbers l.place)
