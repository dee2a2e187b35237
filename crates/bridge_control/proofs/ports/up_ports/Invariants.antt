use Rattle.std.proofs.Common.{◌≡◌, ◌+◌, drop}
use Rattle.bridge_api.specs.View.{up_from}
use Rattle.bridge_control.proofs.ports.up_ports.Given as goal

-- the Up ports of those that were looked at, from the last on
abbrev pub invariant-up : goal.invariant-up
invariant-up l = l.up ≡ up_from (l.place + 1) (drop l.place l.ports)
