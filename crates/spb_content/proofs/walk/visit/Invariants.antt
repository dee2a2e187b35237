use Rattle.std.proofs.Common.{take}
use Rattle.spb_content.proofs.Walked.{Visiting}
use Rattle.spb_content.proofs.walk.visit.Given as goal

abbrev pub invariant-loop-neighbour : goal.invariant-loop-neighbour
invariant-loop-neighbour l = Visiting l.backbone.list.now l.from l.fn.walk l.walk (take l.neighbour-index l.neighbour-items)
