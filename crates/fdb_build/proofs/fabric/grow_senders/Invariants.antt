use Rattle.std.proofs.Common.{◌≡◌, ◌≢◌, ◌<◌, ℕ, []}
use Rattle.ect_trees.specs.Forest.{KeepsStill}
use Rattle.fdb_build.specs.Fabric.{KeepsFrom}
use Rattle.fdb_build.specs.Making.{sent_at}
use Rattle.fdb_build.proofs.fabric.grow_senders.Given as goal

-- the best paths from each bridge before this place are kept, if it sends
abbrev pub invariant-loop-place : goal.invariant-loop-place
invariant-loop-place l = (l.forest.graph ≡ l.fn.forest.graph) × (KeepsStill l.fn.forest l.forest
    × ((p : ℕ) → p < l.place → sent_at l.fn.planned.services p ≢ [] → KeepsFrom l.forest p l.fn.planned))
