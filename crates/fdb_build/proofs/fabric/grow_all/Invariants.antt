use Rattle.std.proofs.Common.{◌≡◌, take}
use Rattle.std.specs.List.{AllByRecursion}
use Rattle.fdb_build.specs.Fabric.{KeepsSenders}
use Rattle.fdb_build.proofs.fabric.grow_all.Given as goal

abbrev pub invariant-loop-planned : goal.invariant-loop-planned
invariant-loop-planned l = (l.forest.graph ≡ l.fn.forest.graph) × AllByRecursion (KeepsSenders l.forest) (take l.planned-index l.fn.plans)
