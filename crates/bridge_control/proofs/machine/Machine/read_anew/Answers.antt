use Rattle.std.proofs.Common.{◌≡◌, sym, ap, subst, ◌∙◌}
use Rattle.spb_types.specs.Graph.{IsValidFor}
use Rattle.spb_types.specs.declared.graph.Graph.{Graph}
use Rattle.fdb_build.specs.Fabric.{FabricView}
use Rattle.fdb_build.specs.Tables.{ArePlans}
use Rattle.bridge_control.specs.Machine.{view_of}
use Rattle.bridge_control.proofs.OwnTables.{plans_are, read_apart, read_own_ports}
use Rattle.bridge_control.proofs.machine.Machine.read_anew.Goals as goal

pub said_graph_of-requires-clause-apart : goal.said_graph_of-requires-clause-apart
said_graph_of-requires-clause-apart c = read_apart (view_of c.args.self.now) _ (c.as_slice.ensures.value ∙ c.in_ok-list.ensures.read)

pub new-requires-clause-vids : goal.new-requires-clause-vids
new-requires-clause-vids c = subst ArePlans (sym c.as_slice-2.ensures) (plans_are (view_of c.args.self.now) c.requires.config)

pub returns-clause-valid : goal.returns-clause-valid
returns-clause-valid c =
    let v = view_of c.args.self.now in
    let same : c.in_ok-new.field-0.value.graph ≡ c.in_ok-graph.graph = ap (λ (f : FabricView). f.graph) (c.in_ok-new.ensures.ok ∙ c.in_ok-fabric.ensures) ∙ c.in_ok-roads.ensures in
    subst (λ (g : Graph). IsValidFor g v.id.system) (sym same) (c.in_ok-graph.ensures.valid_for v.id.system (read_own_ports v _ c.requires (c.as_slice.ensures.value ∙ c.in_ok-list.ensures.read)))
