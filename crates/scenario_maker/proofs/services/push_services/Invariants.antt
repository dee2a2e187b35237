use Rattle.std.proofs.Common.{◌≡◌, ◌++◌, map}
use Rattle.scenario_maker.specs.Made.{numbers, service}
use Rattle.scenario_maker.proofs.services.push_services.Given as goal

abbrev pub invariant-services : goal.invariant-services
invariant-services l = l.script.items ≡ l.initial.script.items ++ map service (numbers l.place)
