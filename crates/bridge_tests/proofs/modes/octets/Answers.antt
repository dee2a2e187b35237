use Rattle.spb_types.specs.declared.service.Mode.TheVariants.{Send, Recv}
use Rattle.bridge_tests.proofs.TwoPorts.{first_attached}
use Rattle.bridge_tests.proofs.modes.octets.Goals as goal

pub detach-requires-clause-attached : goal.detach-requires-clause-attached
detach-requires-clause-attached g c = λ unfailed.
    first_attached (g.B.Bridge.shown c.attach_two.new.bridge).view Send Recv c.in_ok-sends.ensures.ports
