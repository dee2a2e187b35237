use Rattle.bridge_control.proofs.Keeping.{kept_configured}
use Rattle.bridge_control.proofs.control_plane.ControlPlane.configure.Goals as goal

pub invariant_of-self : goal.invariant_of-self
invariant_of-self c = kept_configured c.args.config.now c.self.inside.failed c.in-Ok.machine c.requires.whole c.in-Ok.ensures
