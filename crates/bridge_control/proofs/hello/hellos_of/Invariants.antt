use Rattle.std.proofs.Common.{◌≡◌, take}
use Rattle.bridge_control.specs.Machine.{hellos_from}
use Rattle.bridge_control.proofs.hello.hellos_of.Given as goal

abbrev pub invariant-make : goal.invariant-make
invariant-make l = l.hellos.items ≡ hellos_from l.system 1 (take l.place l.ports)
