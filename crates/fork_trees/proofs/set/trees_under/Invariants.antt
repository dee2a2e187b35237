use Rattle.std.proofs.Common.{◌≡◌, map, take, All}
use Rattle.spb_types.specs.Graph.{systems_of}
use Rattle.ect_trees.specs.Tree.{IsGrown}
use Rattle.fork_trees.proofs.set.trees_under.Given as goal

abbrev pub invariant-loop-bridge : goal.invariant-loop-bridge
invariant-loop-bridge l = (map (λ t. t.source) l.trees.items ≡ systems_of (take l.bridge-index l.bridges))
    × All (IsGrown l.roads l.mask) l.trees.items
