use Rattle.std.proofs.Common.{◌≡◌, ◌++◌, map}
use Rattle.scenario_maker.specs.Made.{numbers, bridge}
use Rattle.scenario_maker.proofs.network.push_bridges.Given as goal

abbrev pub invariant-bridges : goal.invariant-bridges
invariant-bridges l = l.script.items ≡ l.initial.script.items ++ map bridge (numbers l.place)
