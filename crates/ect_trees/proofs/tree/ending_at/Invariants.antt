use Rattle.std.proofs.Common.{◌≡◌, drop}
use Rattle.ect_trees.specs.Search.{paths_in}
use Rattle.ect_trees.specs.Tree.{path_in}
use Rattle.ect_trees.proofs.tree.ending_at.Given as goal

abbrev pub invariant-loop-label : goal.invariant-loop-label
invariant-loop-label l = path_in (paths_in l.labels) l.to ≡ path_in (paths_in (drop l.label-index l.labels)) l.to
