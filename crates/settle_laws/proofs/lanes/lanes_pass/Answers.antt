use Rattle.std.proofs.Common.{◌<◌, ℕ, List, length, slice_get, sym, ◌∙◌, arith}
use Rattle.link_model.specs.declared.lanes.LinkLanes.{LinkLanes}
use Rattle.spb_network.proofs.QuietWalks.{all-found, all-passed}
use Rattle.settle_laws.specs.Premises.{frame_passes}
use Rattle.settle_laws.proofs.BothLanes.{both_pass, both_lanes}
use Rattle.settle_laws.proofs.lanes.lanes_pass.Goals as goal

pub returns-then-not-branch : goal.returns-then-not-branch
returns-then-not-branch g c =
    let lanes : List LinkLanes = c.args.network.now.lanes in
    let k : ℕ = c.loop-link.link in
    let within : k < length lanes = omega (arith, c.loop-link-test.true, c.lane_count-link-end.ensures) in
    sym (c.loop-link.invariant.1 ∙ all-found (both_pass (frame_passes c.args.test)) lanes k within
    (sym c.if-not-branch.true ∙ (c.in_ok-link_passes.ensures ∙ both_lanes (frame_passes c.args.test) (slice_get lanes k))))

pub loop-link-preserved : goal.loop-link-preserved
loop-link-preserved g c =
    let lanes : List LinkLanes = c.args.network.now.lanes in
    let k : ℕ = c.loop-link.link in
    let within : k < length lanes = omega (arith, c.loop-link-test.true, c.lane_count-link-end.ensures) in (
      omega (arith, c.loop-link-test.true),
      c.loop-link.invariant.1 ∙ all-passed (both_pass (frame_passes c.args.test)) lanes k within
          (sym c.if-not-branch.false ∙ (c.in_ok-link_passes.ensures ∙ both_lanes (frame_passes c.args.test) (slice_get lanes k))),
    )
