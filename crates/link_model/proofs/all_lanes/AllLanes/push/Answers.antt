use Rattle.link_model.specs.Lane.{pushed}
use Rattle.link_model.proofs.LaneLemmas.{lent-lane, lent-none, frames-set, frames-kept, frames-none, on_err}
use Rattle.link_model.proofs.all_lanes.AllLanes.push.Goals as goal

pub returns-in-None-clause-ok : goal.returns-in-None-clause-ok
returns-in-None-clause-ok c =
    let all = c.args.self.now in let k = c.args.id.link in let dir = c.args.id.dir in frames-none (λ frames. pushed frames c.args.frame) all k dir (lent-none all k dir c.lane_mut.result c.lane_mut.ensures.lane c.in-None.is)

pub returns-in_ok-_pushed-in-Some-clause-ok : goal.returns-in_ok-_pushed-in-Some-clause-ok
returns-in_ok-_pushed-in-Some-clause-ok c =
    let all = c.args.self.now in let k = c.args.id.link in let dir = c.args.id.dir in frames-set (λ frames. pushed frames c.args.frame) all k dir c.in-Some.lane.now _ (lent-lane all k dir c.lane_mut.result c.in-Some.lane c.lane_mut.ensures.lane c.in-Some.is) c.in_ok-_pushed-in-Some.ensures.ok

pub returns-in_err-_pushed-in-Some-clause-err : goal.returns-in_err-_pushed-in-Some-clause-err
returns-in_err-_pushed-in-Some-clause-err c =
    let all = c.args.self.now in let k = c.args.id.link in let dir = c.args.id.dir in on_err c.from_residual.result (frames-kept all k dir c.in-Some.lane.now _ (lent-lane all k dir c.lane_mut.result c.in-Some.lane c.lane_mut.ensures.lane c.in-Some.is) c.in_err-_pushed-in-Some.ensures.err)
