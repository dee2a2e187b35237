use Rattle.std.proofs.Common.{◌≡◌, ◌+◌, List, Some, None, slice_get, sym, ap, ◌∙◌, arith}
use Rattle.std.specs.Option.{option_copied}
use Rattle.std.proofs.lemmas.Option.{slice_get_within}
use Rattle.link_model.specs.Lane.{Frame}
use Rattle.spb_network.specs.Contents.{frames_of}
use Rattle.spb_network.specs.Network.{state_of}
use Rattle.settle_laws.specs.Premises.{frame_passes}
use Rattle.settle_laws.proofs.Walks.{failed, passed, all_passed, from_place}
use Rattle.settle_laws.proofs.lanes.lane_passes.Goals as goal

pub returns-then-not-branch : goal.returns-then-not-branch
returns-then-not-branch g c =
    let lane : List Frame = frames_of (state_of g.B.Bridge.shown c.args.network.now) c.args.lane in
    let at : slice_get lane c.loop-frame.place ≡ Some c.in-Some.frame.now = sym c.frame_at.ensures ∙ ap option_copied c.in-Some.is in
    sym (c.loop-frame.invariant ∙ failed (frame_passes c.args.test) lane c.loop-frame.place c.in-Some.frame.now at (sym c.in_ok-frame_passes.ensures ∙ c.if-not-branch.true))

pub loop-frame-smaller : goal.loop-frame-smaller
loop-frame-smaller g c =
    let lane : List Frame = frames_of (state_of g.B.Bridge.shown c.args.network.now) c.args.lane in
    let at : slice_get lane c.loop-frame.place ≡ Some c.in-Some.frame.now = sym c.frame_at.ensures ∙ ap option_copied c.in-Some.is in
    let next : c.in-Some-checked_add.next ≡ c.loop-frame.place + 1 = c.in-Some-checked_add.ensures.1 in
    omega (arith, slice_get_within lane c.loop-frame.place c.in-Some.frame.now at, next)

pub loop-frame-preserved : goal.loop-frame-preserved
loop-frame-preserved g c =
    let lane : List Frame = frames_of (state_of g.B.Bridge.shown c.args.network.now) c.args.lane in
    let at : slice_get lane c.loop-frame.place ≡ Some c.in-Some.frame.now = sym c.frame_at.ensures ∙ ap option_copied c.in-Some.is in
    c.loop-frame.invariant
    ∙ (passed (frame_passes c.args.test) lane c.loop-frame.place c.in-Some.frame.now at (sym c.in_ok-frame_passes.ensures ∙ c.if-not-branch.false)
    ∙ from_place (frame_passes c.args.test) lane (c.loop-frame.place + 1) c.in-Some-checked_add.next (sym c.in-Some-checked_add.ensures.1))

pub returns : goal.returns
returns g c =
    let lane : List Frame = frames_of (state_of g.B.Bridge.shown c.args.network.now) c.args.lane in
    let past : slice_get lane c.loop-frame.place ≡ None = sym c.frame_at.ensures ∙ ap option_copied c.in_default.is in
    sym (c.loop-frame.invariant ∙ all_passed (frame_passes c.args.test) lane c.loop-frame.place past)
