use Rattle.std.proofs.Common.{◌≤◌, length, drop}
use Rattle.bridge_control.specs.Ports.{AreUnused}
use Rattle.bridge_control.proofs.ports.ports_in_use.Given as goal

-- none of those that were looked at, from the last on, has carrier
abbrev pub invariant-skip : goal.invariant-skip
invariant-skip l = (l.rest ≤ length l.ports) × AreUnused (drop l.rest l.ports)

abbrev pub decreases-skip : goal.decreases-skip
decreases-skip l = l.rest
