use Rattle.std.proofs.Common.{◌≡◌, ◌+◌, ◌<◌, Some, sym, ◌∙◌, arith}
use Rattle.std.proofs.lemmas.Bool.{ltb-true}
use Rattle.ect_trees.specs.Ways.{step_at}
use Rattle.ect_trees.proofs.Tried.{arc_dearer, arc_own}
use Rattle.ect_trees.proofs.trial.is_clear.Goals as goal

pub returns-then-end-step : goal.returns-then-end-step
returns-then-end-step c = λ yes.
    let w = c.args.ways.now in
    let end = c.in-Some.end in
    let at : step_at w.steps.now c.args.arc.to ≡ Some c.in-Some.end = sym c.step_at.ensures ∙ c.in-Some.is in
    let more : end.cost < c.args.step.cost + c.args.arc.cost = omega (arith, c.if-end-step.true, c.from.ensures) in
    arc_dearer w.mesh.now w.mask w.steps.now c.args.place c.args.step c.args.arc end at more

pub returns-then-end-place : goal.returns-then-end-place
returns-then-end-place c = λ less.
    let w = c.args.ways.now in
    let end = c.in-Some.end in
    let at : step_at w.steps.now c.args.arc.to ≡ Some c.in-Some.end = sym c.step_at.ensures ∙ c.in-Some.is in
    let more : c.args.step.hops < end.hops = ltb-true c.args.step.hops end.hops less in
    arc_own w.mesh.now w.mask w.steps.now c.args.place c.args.step c.args.arc end at c.if-end-place.true more
