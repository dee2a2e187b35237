use Rattle.link_model.specs.Lanes.{rest}
use Rattle.link_model.proofs.LaneLemmas.{lent-lane, lent-none, frames-set, frames-none, rest-of}
use Rattle.link_model.proofs.all_lanes.AllLanes.pop.Goals as goal

pub returns-in-None-clause-rest : goal.returns-in-None-clause-rest
returns-in-None-clause-rest c =
    let all = c.args.self.now in let k = c.args.id.link in let dir = c.args.id.dir in frames-none rest all k dir (lent-none all k dir c.lane_mut.result c.lane_mut.ensures.lane c.in-None.is)

pub returns-in-Some-clause-rest : goal.returns-in-Some-clause-rest
returns-in-Some-clause-rest c =
    let all = c.args.self.now in let k = c.args.id.link in let dir = c.args.id.dir in frames-set rest all k dir c.in-Some.lane.now _ (lent-lane all k dir c.lane_mut.result c.in-Some.lane c.lane_mut.ensures.lane c.in-Some.is) (rest-of (λ v. v) c.in-Some.lane.now c.pop.new.self c.pop.result c.pop.ensures)
