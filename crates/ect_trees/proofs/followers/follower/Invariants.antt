use Rattle.std.proofs.Common.{◌≡◌, ◌<◌, Some}
use Rattle.ect_trees.specs.declared.mesh.Mesh.{Mesh}
use Rattle.ect_trees.specs.declared.ways.Step.{Step}
use Rattle.ect_trees.specs.Ways.{step_at, hops_or}
use Rattle.ect_trees.proofs.Followed.{FollowsBack}
use Rattle.ect_trees.proofs.followers.follower.Given as goal

abbrev pub invariant-loop-left : goal.invariant-loop-left
invariant-loop-left l =
    (s : Step) × (step_at l.steps l.to ≡ Some s) × (hops_or (step_at l.steps l.me) s.hops < l.left)
    × ((r : Mesh) → FollowsBack r l.steps l.me s.hops l.to l.left l.place)

abbrev pub decreases-loop-left : goal.decreases-loop-left
decreases-loop-left l = l.left
