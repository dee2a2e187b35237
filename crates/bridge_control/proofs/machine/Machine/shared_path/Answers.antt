use Rattle.std.proofs.Common.{ap}
use Rattle.spb_types.specs.Ect.{mask_of}
use Rattle.fdb_build.specs.Fabric.{FabricView}
use Rattle.bridge_control.specs.Machine.{view_of}
use Rattle.bridge_control.proofs.OwnTables.{path_read}
use Rattle.bridge_control.proofs.machine.Machine.shared_path.Goals as goal

pub returns : goal.returns
returns c =
    let f = c.in_ok-reading.reading in
    path_read (view_of c.args.self.now) f.graph (mask_of c.args.ect) c.args.to c.path-path.result
    (ap (λ (x : FabricView). x.graph) c.in_ok-reading.ensures.reading) c.path-path.ensures
