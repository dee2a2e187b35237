use Rattle.std.proofs.Common.{◌≡◌, ◌<◌, length, take}
use Rattle.std.specs.List.{AllByRecursion}
use Rattle.ect_trees.specs.Forest.{KeepsStill}
use Rattle.fdb_build.specs.Fabric.{KeepsFrom}
use Rattle.fdb_build.proofs.fabric.grow_under.Given as goal

abbrev pub invariant-loop-planned : goal.invariant-loop-planned
invariant-loop-planned l = (l.forest.graph ≡ l.fn.forest.graph) × (KeepsStill l.fn.forest l.forest
    × (l.fn.place < length l.fn.forest.graph.bridges → AllByRecursion (KeepsFrom l.forest l.fn.place) (take l.planned-index l.fn.plans)))
