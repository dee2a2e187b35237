use Rattle.std.proofs.Common.{◌<◌, length, arith, sym}
use Rattle.spb_content.proofs.Walked.{walking_none, walking_more, queue_high, reaches}
use Rattle.spb_content.proofs.walk.walk_from.Goals as goal

pub loop-next-init : goal.loop-next-init
loop-next-init c = walking_none c.args.backbone.now.list.now c.args.source c.in_ok-walk.walk c.in_ok-walk.ensures

pub visit-requires-clause-walk : goal.visit-requires-clause-walk
visit-requires-clause-walk c = c.loop-next.invariant.walk

pub visit-requires-clause-within : goal.visit-requires-clause-within
visit-requires-clause-within c =
    let within : c.loop-next.next < length c.loop-next.walk.queue.items = search arith in
    queue_high c.args.backbone.now.list.now c.loop-next.walk c.index-place.result.now c.loop-next.invariant.walk (c.loop-next.next, within, sym c.index-place.ensures)

pub loop-next-preserved : goal.loop-next-preserved
loop-next-preserved c =
    let within : c.loop-next.next < length c.loop-next.walk.queue.items = search arith in
    walking_more c.args.backbone.now.list.now c.args.source c.loop-next.walk _ c.loop-next.next c.index-place.result.now c.loop-next.invariant within c.index-place.ensures c.in_ok-visit.ensures

pub returns : goal.returns
returns c = reaches c.args.backbone.now.list.now c.args.source c.loop-next.walk c.loop-next.next c.loop-next.invariant (search arith)
