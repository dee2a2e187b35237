use Rattle.std.proofs.Common.{◌≡◌, ◌++◌, flat_map}
use Rattle.scenario_maker.specs.Made.{numbers, members}
use Rattle.scenario_maker.proofs.services.push_attachments.Given as goal

abbrev pub invariant-attachments : goal.invariant-attachments
invariant-attachments l = l.script.items ≡ l.initial.script.items ++ flat_map (members l.n) (numbers l.place)
