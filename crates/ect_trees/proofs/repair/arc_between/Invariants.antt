use Rattle.ect_trees.proofs.Repairing.{NoneLeads}
use Rattle.ect_trees.proofs.repair.arc_between.Given as goal

abbrev pub invariant-loop-arc : goal.invariant-loop-arc
invariant-loop-arc l = NoneLeads l.mesh l.from l.to l.arc-index
