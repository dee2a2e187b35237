use Rattle.std.proofs.Common.{ap}
use Rattle.fdb_build.specs.Fabric.{FabricView}
use Rattle.bridge_control.specs.Machine.{view_of}
use Rattle.bridge_control.proofs.OwnTables.{tables_read}
use Rattle.bridge_control.proofs.machine.Machine.tables.Goals as goal

pub returns : goal.returns
returns c =
    let f = c.in_ok-reading.reading in
    let read = c.in_ok-reading.ensures.reading in
    tables_read (view_of c.args.self.now) f.graph f.vids c.tables-tables.result (ap (λ (x : FabricView). x.graph) read) (ap (λ (x : FabricView). x.vids) read)
    c.tables-tables.ensures.tables
