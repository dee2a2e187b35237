use Rattle.std.proofs.Common.{◌≡◌, take}
use Rattle.forwarding.specs.Tenant.{each_with}
use Rattle.forwarding.proofs.copies.on_wire.Given as goal

abbrev pub invariant-loop-port : goal.invariant-loop-port
invariant-loop-port l = l.out.items ≡ each_with l.frame (take l.port-index l.ports)
