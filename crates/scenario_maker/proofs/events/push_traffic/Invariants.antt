use Rattle.std.proofs.Common.{◌≡◌, ◌++◌, flat_map}
use Rattle.scenario_maker.specs.Made.{numbers, sent}
use Rattle.scenario_maker.proofs.events.push_traffic.Given as goal

abbrev pub invariant-traffic : goal.invariant-traffic
invariant-traffic l = l.script.items ≡ l.initial.script.items ++ flat_map sent (numbers l.place)
