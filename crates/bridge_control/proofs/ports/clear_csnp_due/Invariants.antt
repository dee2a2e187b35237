use Rattle.std.proofs.Common.{◌≡◌, ◌++◌, map, take, drop, false}
use Rattle.bridge_api.specs.Hearing.{with_csnp_due}
use Rattle.bridge_control.proofs.ports.clear_csnp_due.Given as goal

abbrev pub invariant-clear : goal.invariant-clear
invariant-clear l = l.ports.items ≡ map (with_csnp_due false) (take l.place l.fn.ports.items) ++ drop l.place l.fn.ports.items
