use Rattle.std.proofs.Common.{◌≡◌, ◌≤◌, length, drop}
use Rattle.fdb_build.specs.Surroundings.{ports_by}
use Rattle.fdb_build.proofs.surroundings.ports_of.Given as goal

-- the ports towards the neighbours from `left` on
abbrev pub invariant-loop-left : goal.invariant-loop-left
invariant-loop-left l = (l.left ≤ length l.neighbours)
    × (l.ports.items ≡ ports_by (drop l.left l.neighbours) l.roads.bridges)

abbrev pub decreases-loop-left : goal.decreases-loop-left
decreases-loop-left l = l.left
