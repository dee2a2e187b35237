use Rattle.std.proofs.Common.{◌≡◌, take}
use Rattle.bridge_api.specs.Own.{neighbours_from}
use Rattle.bridge_control.proofs.ports.neighbours_at.Given as goal

abbrev pub invariant-find : goal.invariant-find
invariant-find l = l.neighbours.items ≡ neighbours_from 1 (take l.place l.ports)
