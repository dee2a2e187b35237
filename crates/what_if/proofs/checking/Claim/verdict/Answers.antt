use Rattle.std.proofs.Common.{sym, ap, ◌∙◌, arith}
use Rattle.spb_types.specs.Graph.{systems_of}
use Rattle.what_if.specs.Failing.{fails, verdict_by}
use Rattle.what_if.proofs.Placed.{bridge_there}
use Rattle.what_if.proofs.Verdicts.{looks_on, looked_at}
use Rattle.what_if.proofs.checking.Claim.verdict.Goals as goal

pub returns-then-branch : goal.returns-then-branch
returns-then-branch c =
    let s = c.args.self.now in
    let g = s.mesh.now.graph in
    let k = c.loop-place.place in
    let here = bridge_there g k (omega (arith, c.loop-place-test.true, c.requires.long)) in
    sym (ap verdict_by (looked_at (fails g s.mask s.entries.now s.source) (systems_of g.bridges) k here.0 c.loop-place.invariant here.1 (sym (c.in_ok-fails.ensures here.0 here.1) ∙ c.if-branch.true)))

pub loop-place-preserved : goal.loop-place-preserved
loop-place-preserved c =
    let s = c.args.self.now in
    let g = s.mesh.now.graph in
    let k = c.loop-place.place in
    let here = bridge_there g k (omega (arith, c.loop-place-test.true, c.requires.long)) in
    looks_on (fails g s.mask s.entries.now s.source) (systems_of g.bridges) k here.0 c.loop-place.invariant here.1 (sym (c.in_ok-fails.ensures here.0 here.1) ∙ c.if-branch.false)
