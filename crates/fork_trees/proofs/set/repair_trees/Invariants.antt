use Rattle.std.proofs.Common.{◌*◌, ◌≤◌, length}
use Rattle.spb_types.specs.Graph.{systems_of}
use Rattle.ect_trees.specs.Tree.{IsGrown}
use Rattle.ect_trees.specs.Change.{WasGrown}
use Rattle.fork_trees.proofs.Kept.{Passed}
use Rattle.fork_trees.proofs.set.repair_trees.Given as goal

abbrev pub invariant-loop-tree : goal.invariant-loop-tree
invariant-loop-tree l =
    Passed (λ t. t.source) (systems_of l.roads.bridges) (IsGrown l.roads l.mask) (WasGrown l.roads l.mask l.edge.a l.edge.b) l.tree-index l.tree-items
    × (l.anew ≤ l.tree-index * length l.roads.bridges)
