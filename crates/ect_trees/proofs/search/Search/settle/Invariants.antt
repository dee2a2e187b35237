use Rattle.std.proofs.Common.{◌-◌, length}
use Rattle.ect_trees.specs.Search.{graph_of}
use Rattle.ect_trees.proofs.Settled.{Settling}
use Rattle.ect_trees.proofs.search.Search.settle.Given as goal

abbrev pub invariant-loop-first : goal.invariant-loop-first
invariant-loop-first l = Settling l.self l.settled l.labels.items l.front

abbrev pub decreases-loop-first : goal.decreases-loop-first
decreases-loop-first l = length (graph_of l.self).bridges - l.settled
