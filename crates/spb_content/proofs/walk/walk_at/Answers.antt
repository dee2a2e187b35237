use Rattle.std.proofs.Common.{sym}
use Rattle.spb_content.proofs.Walked.{starts_nowhere, starts_here}
use Rattle.spb_content.proofs.walk.walk_at.Goals as goal

pub returns-in-None : goal.returns-in-None
returns-in-None c =
    starts_nowhere c.args.backbone.now.list.now c.args.source _ c.in_ok-walk.ensures.source c.in_ok-walk.ensures.marks c.in_ok-walk.ensures.queue (sym c.in-None.ensures.place)

pub returns-in_ok-mark-in-Some : goal.returns-in_ok-mark-in-Some
returns-in_ok-mark-in-Some c =
    starts_here c.args.backbone.now.list.now c.args.source c.in_ok-walk.walk _ _ c.in_ok-walk.ensures.source c.in_ok-walk.ensures.marks c.in_ok-walk.ensures.queue (sym c.in-Some.ensures.place) c.in_ok-mark-in-Some.ensures
