use Rattle.std.proofs.Common.{◌≡◌, ◌++◌, reverse}
use Rattle.ect_trees.specs.Ways.{way_back}
use Rattle.ect_trees.proofs.paths.bridges_back.Given as goal

-- the bridges so far, and those on the way that is left
abbrev pub invariant-loop-left : goal.invariant-loop-left
invariant-loop-left l =
    l.bridges.items ++ reverse (way_back l.mesh.graph l.source l.steps l.left l.place)
    ≡ reverse (way_back l.mesh.graph l.source l.steps l.hops l.to)

abbrev pub decreases-loop-left : goal.decreases-loop-left
decreases-loop-left l = l.left
