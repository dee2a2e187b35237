use Rattle.std.proofs.Common.{◌≡◌, ◌++◌, flat_map}
use Rattle.scenario_maker.specs.Made.{numbers, questions_of}
use Rattle.scenario_maker.proofs.events.push_questions.Given as goal

abbrev pub invariant-questions : goal.invariant-questions
invariant-questions l = l.script.items ≡ l.initial.script.items ++ flat_map questions_of (numbers l.place)
