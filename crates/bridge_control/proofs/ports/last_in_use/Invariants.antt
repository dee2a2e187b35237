use Rattle.std.proofs.Common.{drop}
use Rattle.bridge_control.specs.Ports.{AreUnused}
use Rattle.bridge_control.proofs.ports.last_in_use.Given as goal

-- none of those that were looked at, from the last on, has carrier
abbrev pub invariant-search : goal.invariant-search
invariant-search l = AreUnused (drop l.place l.ports)
