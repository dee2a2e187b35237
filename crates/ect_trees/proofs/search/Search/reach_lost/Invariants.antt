use Rattle.ect_trees.proofs.Repairing.{ReachingLost}
use Rattle.ect_trees.proofs.search.Search.reach_lost.Given as goal

abbrev pub invariant-loop-place : goal.invariant-loop-place
invariant-loop-place l = ReachingLost l.self l.place l.initial.labels.items l.labels.items l.initial.front l.front
