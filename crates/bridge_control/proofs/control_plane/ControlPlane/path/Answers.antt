use Rattle.std.proofs.Common.{rules}
use Rattle.bridge_control.specs.Machine.{IsReady}
use Rattle.bridge_control.proofs.OwnTables.{path_shown}
use Rattle.bridge_control.proofs.control_plane.ControlPlane.path.Goals as goal

pub path-requires-clause-sound : goal.path-requires-clause-sound
path-requires-clause-sound c =
    let ready : IsReady c.self.inside.machine = search rules in
    ready.sound

pub returns-clause-path : goal.returns-clause-path
returns-clause-path c = path_shown c.self.inside.blank c.self.inside.failed c.self.inside.machine c.args.self.now c.args.to c.args.vid c.path.result c.self.view_is c.path.ensures
