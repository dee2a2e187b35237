use Rattle.std.proofs.Common.{sym, ap, map, subst, ◌∙◌}
use Rattle.spb_types.specs.Graph.{IsValidFor}
use Rattle.fdb_build.specs.Fabric.{FabricView}
use Rattle.bridge_control.specs.Machine.{view_of}
use Rattle.bridge_api.specs.Tables.{contents_among}
use Rattle.bridge_control.specs.Reading.{copied}
use Rattle.bridge_control.proofs.OwnTables.{read_own_ports}
use Rattle.bridge_control.proofs.machine.Machine.reading.Goals as goal

pub returns-clause-valid : goal.returns-clause-valid
returns-clause-valid c =
    let v = view_of c.args.self.now in
    let said = ap (λ lsps. contents_among (map copied lsps)) (sym c.as_slice-2.ensures.value) ∙ sym (c.are_held.ensures.read c.if-are_held.true) in
    subst (λ (f : FabricView). IsValidFor f.graph v.id.system) c.reading.view_is (c.reading.invariant.valid_for v.id.system (read_own_ports v _ c.requires said))
