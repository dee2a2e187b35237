use Rattle.link_model.specs.Lane.{after_lose}
use Rattle.link_model.proofs.LaneLemmas.{lent-lane, lent-none, frames-set, frames-none}
use Rattle.link_model.proofs.all_lanes.AllLanes.lose.Goals as goal

pub returns-in-None : goal.returns-in-None
returns-in-None c =
    let all = c.args.self.now in let k = c.args.id.link in let dir = c.args.id.dir in frames-none (λ frames. after_lose frames c.args.place) all k dir (lent-none all k dir c.lane_mut.result c.lane_mut.ensures.lane c.in-None.is)

pub returns-in-Some : goal.returns-in-Some
returns-in-Some c =
    let all = c.args.self.now in let k = c.args.id.link in let dir = c.args.id.dir in frames-set (λ frames. after_lose frames c.args.place) all k dir c.in-Some.lane.now _ (lent-lane all k dir c.lane_mut.result c.in-Some.lane c.lane_mut.ensures.lane c.in-Some.is) c.lose-lost.ensures.frames
