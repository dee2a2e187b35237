use Rattle.bridge_control.proofs.Keeping.{due_is}
use Rattle.bridge_control.proofs.control_plane.ControlPlane.due.Goals as goal

pub returns : goal.returns
returns c =
    due_is c.self.inside.blank c.self.inside.failed c.self.inside.machine c.args.self.now c.args.port c.as_slice.result.now c.port_at.result c.self.view_is c.as_slice.ensures.value c.port_at.ensures
