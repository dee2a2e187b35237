use Rattle.std.proofs.Common.{rules}
use Rattle.bridge_control.proofs.Following.{hellos_next}
use Rattle.bridge_control.proofs.hello.hellos_of.Goals as goal

pub make-preserved : goal.make-preserved
make-preserved c =
    hellos_next c.args.system c.args.ports.now c.make.place _ c.make.hellos.items _ _ c.make-test.true c.make.invariant c.in_ok-hello.ensures (search rules)
