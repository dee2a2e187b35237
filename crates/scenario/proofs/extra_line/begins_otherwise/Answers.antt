use Rattle.std.proofs.Common.{◌≡◌, Bool, true, false, refl, sym, ◌∙◌, not}
use Rattle.std.specs.Prelude.{IsTrue}
use Rattle.scenario.proofs.ExtraLaws.{otherwise-none}
use Rattle.scenario.proofs.extra_line.begins_otherwise.Goals as goal

isnt : (b : Bool) → IsTrue (not b) → b ≡ false
isnt true h = absurd cc
isnt false h = refl

pub returns-in-Some : goal.returns-in-Some
returns-in-Some c h = otherwise-none c.args.line.now c.in-Some.first.now c.in-Some.ensures.value (sym c.may_begin.ensures ∙ isnt c.may_begin.result h)
