use Rattle.ect_trees.proofs.Forgetting.{AreOther}
use Rattle.ect_trees.proofs.repair.steps_over.Given as goal

abbrev pub invariant-loop-place : goal.invariant-loop-place
invariant-loop-place l = AreOther l.a l.b l.path l.place
