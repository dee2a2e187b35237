use Rattle.std.proofs.Common.{◌≡◌, sym, ap, subst, ◌∙◌}
use Rattle.std.specs.Prelude.{IfOk}
use Rattle.spb_types.specs.declared.address.BridgeId.{BridgeId}
use Rattle.spb_types.specs.declared.address.SystemId.{SystemId}
use Rattle.spb_types.specs.declared.tables.Tables.{Tables}
use Rattle.bridge_control.specs.Plane.{Plane}
use Rattle.bridge_control.proofs.OwnTables.{tables_read}
use Rattle.fdb_build.specs.Groups.{group_rows}
use Rattle.fdb_build.specs.Searches.{Serve}
use Rattle.fdb_build.specs.Tables.{unicast_rows}
use Rattle.fork_trees.specs.Set.{has_tree}
use Rattle.swift_bridge.proofs.UpToDate.{serve}
use Rattle.swift_bridge.proofs.bridge.SwiftBridge.tables_in.Goals as goal

pub tables_by-requires-clause-trees : goal.tables_by-requires-clause-trees
tables_by-requires-clause-trees c =
    let s = c.args.trees.now in
    let plans = c.vids.ensures.vids ∙ ap (λ (p : Plane). p.view.vids) c.self.view_is in
    subst (λ plans. Serve s.graph (has_tree s) c.args.graph.now plans) (sym plans) (serve c.args.graph.now c.args.self.now.view.vids s c.requires.trees)

pub returns : goal.returns
returns c =
    let g = c.args.graph.now in
    let plans = c.vids.ensures.vids ∙ ap (λ (p : Plane). p.view.vids) c.self.view_is in
    let me = ap (λ (b : BridgeId). b.system) c.id.ensures ∙ ap (λ (p : Plane). p.view.id.system) c.self.view_is in
    tables_read c.args.self.now.view g c.vids.result.now c.tables_by.result c.requires.graph plans
    (subst (λ (x : SystemId). IfOk c.tables_by.result (λ (t : Tables). t ≡ record { unicast = unicast_rows g x c.vids.result.now; group = group_rows g x c.vids.result.now })) me c.tables_by.ensures)
