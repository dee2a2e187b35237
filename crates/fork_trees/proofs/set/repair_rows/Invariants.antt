use Rattle.std.proofs.Common.{◌*◌, ◌≤◌, length}
use Rattle.fork_trees.specs.Set.{masks_of, AreTrees, WereTrees}
use Rattle.fork_trees.proofs.Kept.{Passed}
use Rattle.fork_trees.proofs.set.repair_rows.Given as goal

abbrev pub invariant-loop-row : goal.invariant-loop-row
invariant-loop-row l =
    Passed (λ r. r.mask) (masks_of l.fn.rows.items) (λ r. AreTrees l.roads r.mask r.trees.items) (λ r. WereTrees l.roads l.edge r.mask r.trees.items) l.row-index l.row-items
    × (l.anew ≤ l.row-index * (length l.roads.bridges * length l.roads.bridges))
