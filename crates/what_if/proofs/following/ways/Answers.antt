use Rattle.std.proofs.Common.{◌≡◌, length, subst, arith}
use Rattle.what_if.specs.Labels.{AreFirstWays}
use Rattle.what_if.proofs.Placed.{more_ways}
use Rattle.what_if.proofs.following.ways.Goals as goal

pub loop-place-preserved : goal.loop-place-preserved
loop-place-preserved c = more_ways c.args.mesh.now.graph c.args.entries.now c.args.source c.loop-place.place c.loop-place.labels.items _ _ c.loop-place.invariant c.in_ok-way_to.ensures c.in_ok-push.ensures.items

pub returns : goal.returns
returns c =
    let all : c.loop-place.place ≡ length c.args.mesh.now.graph.bridges = omega (arith, c.loop-place-test.false, c.loop-place.auto.place-end, c.requires.long) in
    subst (λ n. AreFirstWays c.args.mesh.now.graph c.args.entries.now c.args.source n c.loop-place.labels.items) all c.loop-place.invariant
