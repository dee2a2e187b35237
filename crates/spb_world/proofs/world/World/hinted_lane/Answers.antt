use Rattle.std.proofs.Common.{sym, ◌∙◌}
use Rattle.spb_world.specs.World.{things_of}
use Rattle.spb_world.proofs.HintLemmas.{hint-gives}
use Rattle.spb_world.proofs.world.World.hinted_lane.Goals as goal

pub returns-in-Some : goal.returns-in-Some
returns-in-Some c =
    hint-gives (things_of c.args.self.now.links) c.link_at-place.result c.args.bridge c.args.port c.in-Some.link c.lane_of_link.result (rw (← c.self.view_is) c.self.invariant.0.links_apart) c.in-Some.ensures.ends.apart (sym c.link.ensures.link ∙ c.in-Some.is) c.lane_of_link.ensures
