use Rattle.std.proofs.Common.{◌≡◌, sym, ap, ◌∙◌}
use Rattle.spb_types.specs.declared.graph.Graph.{Graph}
use Rattle.fdb_build.specs.Fabric.{FabricView}
use Rattle.fdb_build.proofs.KeptLemmas.{path_found}
use Rattle.fdb_build.proofs.fabric.Fabric.path.Goals as goal

pub returns-in-Some : goal.returns-in-Some
returns-in-Some c =
    let all : Graph = c.args.self.now.graph in
    let own : c.self.inside.forest.graph ≡ all = ap (λ (f : FabricView). f.graph) c.self.view_is in
    path_found c.roads.result.now c.self.inside.forest.graph all c.in-Some.place c.args.me c.args.to c.ect_mask-mask.result _ c.path.result
    (sym c.place_of.ensures ∙ c.in-Some.is) (c.roads.ensures ∙ own) own c.ect_mask-mask.ensures c.path.ensures
