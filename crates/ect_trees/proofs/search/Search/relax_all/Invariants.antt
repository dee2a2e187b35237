use Rattle.ect_trees.proofs.Relaxed.{Relaxing}
use Rattle.ect_trees.proofs.search.Search.relax_all.Given as goal

abbrev pub invariant-loop-arc : goal.invariant-loop-arc
invariant-loop-arc l = Relaxing l.self l.place l.arc-index l.initial.labels.items l.labels.items l.initial.front l.front
