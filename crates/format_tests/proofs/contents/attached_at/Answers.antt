use Rattle.format_tests.proofs.Ports.{can_be_attached}
use Rattle.format_tests.proofs.contents.attached_at.Goals as goal

pub returns : goal.returns
returns c = can_be_attached c.linked-local.result c.in_ok-attached.attached c.args.vids c.linked-local.ensures c.requires.vids.0 c.requires.vids.1 c.in_ok-attached.ensures
