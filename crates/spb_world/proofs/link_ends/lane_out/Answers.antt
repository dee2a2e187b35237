use Rattle.std.proofs.Common.{sym, ◌∙◌, arith}
use Rattle.spb_world.specs.World.{things_of}
use Rattle.spb_world.specs.Links.{lane_out}
use Rattle.spb_world.proofs.ListLemmas.{length-things}
use Rattle.spb_world.proofs.LaneLemmas.{lane-found, lane-passed}
use Rattle.spb_world.proofs.link_ends.lane_out.Goals as goal

pub returns-in-Some : goal.returns-in-Some
unfolding lane_out
returns-in-Some c =
    sym (c.loop-place.invariant.1 ∙ lane-found (things_of c.args.links.now.entries) c.loop-place.place c.args.bridge c.args.port c.in-Some.lane (omega (arith, length-things c.args.links.now.entries, c.loop-place-test.true, c.len-place-end.ensures.len)) (sym c.in-Some.is ∙ c.lane_at_place.ensures))

pub loop-place-preserved : goal.loop-place-preserved
loop-place-preserved c =
    (omega (arith, c.loop-place-test.true, c.len-place-end.ensures.len), c.loop-place.invariant.1 ∙ lane-passed (things_of c.args.links.now.entries) c.loop-place.place c.args.bridge c.args.port (omega (arith, length-things c.args.links.now.entries, c.loop-place-test.true, c.len-place-end.ensures.len)) (sym c.in_default.is ∙ c.lane_at_place.ensures))
