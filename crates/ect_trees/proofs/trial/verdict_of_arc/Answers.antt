use Rattle.std.proofs.Common.{◌≡◌, ◌+◌, ◌≤◌, Some, sym, ◌∙◌, arith}
use Rattle.ect_trees.specs.Ways.{step_at}
use Rattle.ect_trees.proofs.Tried.{arc_longer, arc_tied}
use Rattle.ect_trees.proofs.trial.verdict_of_arc.Goals as goal

pub returns-then-step-end-clause-low : goal.returns-then-step-end-clause-low
returns-then-step-end-clause-low c =
    let w = c.args.ways.now in
    let end = c.in-Some.end in
    let at : step_at w.steps.now c.args.arc.now.to ≡ Some c.in-Some.end = sym c.step_at.ensures ∙ c.in-Some.is in
    let tie : end.cost ≡ c.args.step.now.cost + c.args.arc.now.cost = omega (arith, c.if-cost-end.false, c.in-Some-checked_add.ensures, c.from.ensures) in
    let long : end.hops ≤ c.args.step.now.hops = omega (arith, c.if-step-end.true) in
    arc_longer w.mesh.now w.mask w.steps.now c.args.place c.args.step.now c.args.arc.now end at tie long

pub returns-else-is_lt-clause-low : goal.returns-else-is_lt-clause-low
returns-else-is_lt-clause-low c =
    let w = c.args.ways.now in
    let end = c.in-Some.end in
    let at : step_at w.steps.now c.args.arc.now.to ≡ Some c.in-Some.end = sym c.step_at.ensures ∙ c.in-Some.is in
    let tie : end.cost ≡ c.args.step.now.cost + c.args.arc.now.cost = omega (arith, c.if-cost-end.false, c.in-Some-checked_add.ensures, c.from.ensures) in
    let long : end.hops ≡ c.args.step.now.hops + 1 = omega (arith, c.if-step-end.false, c.if-end-step-gt1.false) in
    arc_tied w.mesh.now w.mask w.steps.now c.args.place c.args.step.now c.args.arc.now end c.in_ok-order.order at tie long c.in_ok-order.ensures.order (sym c.if-is_lt.ensures)
