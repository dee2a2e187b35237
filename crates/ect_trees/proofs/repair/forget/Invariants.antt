use Rattle.ect_trees.proofs.Forgetting.{Forgetting}
use Rattle.ect_trees.proofs.repair.forget.Given as goal

abbrev pub invariant-loop-place : goal.invariant-loop-place
invariant-loop-place l = Forgetting l.a l.b l.place l.initial.labels.items l.labels.items
