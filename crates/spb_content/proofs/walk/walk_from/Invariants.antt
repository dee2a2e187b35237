use Rattle.std.proofs.Common.{◌-◌, length}
use Rattle.spb_content.proofs.Walked.{Walking}
use Rattle.spb_content.proofs.walk.walk_from.Given as goal

abbrev pub invariant-loop-next : goal.invariant-loop-next
invariant-loop-next l = Walking l.backbone.list.now l.fn.source l.walk l.next

-- there are no more bridges in the queue than systems
abbrev pub decreases-loop-next : goal.decreases-loop-next
decreases-loop-next l = length l.backbone.list.now - l.next
