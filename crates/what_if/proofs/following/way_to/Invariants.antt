use Rattle.what_if.proofs.Walking.{IsWalk}
use Rattle.what_if.proofs.following.way_to.Given as goal

abbrev pub invariant-loop-left : goal.invariant-loop-left
invariant-loop-left l = IsWalk l.mesh.graph l.entries l.source l.place l.here l.system l.left l.bridges.items l.cost

abbrev pub decreases-loop-left : goal.decreases-loop-left
decreases-loop-left l = l.left
