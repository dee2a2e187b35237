use Rattle.std.proofs.Common.{◌≡◌, ◌+◌, ◌-◌, suc, List, sym, subst, ◌∙◌, ap, reverse, arith}
use Rattle.spb_types.specs.declared.address.SystemId.{SystemId}
use Rattle.what_if.specs.Labels.{IsStepTo}
use Rattle.what_if.proofs.Walking.{IsWalk, walk_goes_on, walk_arrives, walk_stops, step_within}
use Rattle.what_if.proofs.following.way_to.Goals as goal

pub returns-in_default : goal.returns-in_default
returns-in_default c =
    let g = c.args.mesh.now.graph in
    let es = c.args.entries.now in
    let more : c.loop-left.left ≡ suc (c.loop-left.left - 1) = omega (arith, c.loop-left-test.true) in
    walk_stops g es c.args.source c.args.place c.loop-left.here c.loop-left.system c.loop-left.bridges.items c.loop-left.cost c.requires.ready.valid
    c.loop-left.left (c.loop-left.left - 1) c.loop-left.invariant more (sym c.if-not-is.ensures) (subst (IsStepTo g es c.loop-left.here) c.in_default.is c.step_to.ensures)

pub system_at-system-requires-in-loop-left : goal.system_at-system-requires-in-loop-left
system_at-system-requires-in-loop-left c =
    let g = c.args.mesh.now.graph in
    let es = c.args.entries.now in
    step_within g es c.args.source c.args.place c.loop-left.here c.loop-left.system c.loop-left.bridges.items c.loop-left.cost c.requires.ready.valid
    c.loop-left.left c.in-Some.arc c.loop-left.invariant (subst (IsStepTo g es c.loop-left.here) c.in-Some.is c.step_to.ensures)

pub loop-left-preserved : goal.loop-left-preserved
loop-left-preserved c =
    let g = c.args.mesh.now.graph in
    let es = c.args.entries.now in
    let a = c.args.source in
    let t = c.system_at-system-in-loop-left.result in
    let left = c.loop-left.left in
    let cost = c.loop-left.cost in
    let arc = c.in-Some.arc in
    let more : left ≡ suc (left - 1) = omega (arith, c.loop-left-test.true) in
    let on = walk_goes_on g es a c.args.place c.loop-left.here c.loop-left.system c.loop-left.bridges.items cost c.requires.ready.valid
    left (left - 1) arc t c.loop-left.invariant more (sym c.if-not-is.ensures) (subst (IsStepTo g es c.loop-left.here) c.in-Some.is c.step_to.ensures) c.system_at-system-in-loop-left.ensures in
    subst (λ n. IsWalk g es a c.args.place arc.from t (left - 1) c.push.new.self.items (cost + n)) (sym c.from-cost.ensures)
    (subst (λ (l : List SystemId). IsWalk g es a c.args.place arc.from t (left - 1) l (cost + arc.cost)) (sym c.in_ok-push.ensures.items) on)

pub returns : goal.returns
returns c =
    walk_arrives c.args.mesh.now.graph c.args.entries.now c.args.source c.args.place c.loop-left.here c.loop-left.system c.loop-left.bridges.items c.loop-left.cost c.requires.ready.valid
    c.loop-left.left c.label_of.result c.loop-left.invariant (sym c.if-not-is-2.ensures) (c.label_of.ensures.bridges ∙ ap reverse c.in_ok-push-2.ensures.items) c.label_of.ensures.cost
