use Rattle.std.proofs.Common.{slice_get, Err, ap, ◌∙◌}
use Rattle.link_model.specs.Lane.{after_double}
use Rattle.link_model.proofs.LaneLemmas.{lent-lane, lent-none, frames-set, frames-kept, frames-none, doubled-none}
use Rattle.link_model.proofs.all_lanes.AllLanes.double.Goals as goal

pub returns-in-None-clause-ok : goal.returns-in-None-clause-ok
returns-in-None-clause-ok c =
    let all = c.args.self.now in let k = c.args.id.link in let dir = c.args.id.dir in frames-none (λ frames. after_double frames c.args.place (slice_get frames c.args.place)) all k dir (lent-none all k dir c.lane_mut.result c.lane_mut.ensures.lane c.in-None.is)

pub returns-in-Ok-clause-ok : goal.returns-in-Ok-clause-ok
returns-in-Ok-clause-ok c =
    let all = c.args.self.now in let k = c.args.id.link in let dir = c.args.id.dir in frames-set (λ frames. after_double frames c.args.place (slice_get frames c.args.place)) all k dir c.in-Some.lane.now _ (lent-lane all k dir c.lane_mut.result c.in-Some.lane c.lane_mut.ensures.lane c.in-Some.is) c.in-Ok.ensures.ok

pub returns-in-Err-NoFrame-clause-ok : goal.returns-in-Err-NoFrame-clause-ok
returns-in-Err-NoFrame-clause-ok c =
    let all = c.args.self.now in let k = c.args.id.link in let dir = c.args.id.dir in frames-set (λ frames. after_double frames c.args.place (slice_get frames c.args.place)) all k dir c.in-Some.lane.now _ (lent-lane all k dir c.lane_mut.result c.in-Some.lane c.lane_mut.ensures.lane c.in-Some.is) (c.in-Err-NoFrame.ensures.err ∙ doubled-none c.in-Some.lane.now c.args.place (c.in-Err-NoFrame.ensures.no_frame.0 (ap Err c.in-Err-NoFrame.field-0-is)))

pub returns-in-Err-NoMemory-clause-err : goal.returns-in-Err-NoMemory-clause-err
returns-in-Err-NoMemory-clause-err c =
    let all = c.args.self.now in let k = c.args.id.link in let dir = c.args.id.dir in frames-kept all k dir c.in-Some.lane.now _ (lent-lane all k dir c.lane_mut.result c.in-Some.lane c.lane_mut.ensures.lane c.in-Some.is) c.in-Err-NoMemory.ensures.err
