use Rattle.ect_trees.proofs.Repairing.{ReachingInto}
use Rattle.ect_trees.proofs.search.Search.relax_into.Given as goal

abbrev pub invariant-loop-arc : goal.invariant-loop-arc
invariant-loop-arc l = ReachingInto l.self l.place l.arc-index l.initial.labels.items l.labels.items l.initial.front l.front
