use Rattle.std.proofs.Common.{◌≡◌, ◌∙◌, sym, ap, subst}
use Rattle.spb_types.specs.declared.graph.Graph.{Graph}
use Rattle.ect_trees.specs.Forest.{ForestView, kept}
use Rattle.ect_trees.specs.Routes.{AreRoutes}
use Rattle.ect_trees.proofs.Kept.{path_kept, path_anew}
use Rattle.ect_trees.proofs.Keeping.{kept_serve}
use Rattle.ect_trees.proofs.forest.Forest.path.Goals as goal

pub returns-in-Some : goal.returns-in-Some
returns-in-Some c =
    let g = c.mesh-mesh.result.now.graph in
    let same : g ≡ c.args.self.now.graph = c.mesh-mesh.ensures.same ∙ ap (λ (f : ForestView). f.graph) c.self.view_is in
    let serve = kept_serve c.self.inside.roads c.self.inside.rows.items c.args.from c.args.mask c.in-Some.routes.now c.self.invariant.1 (sym (c.in-Some.ensures ∙ ap (λ rows. kept rows c.args.from c.args.mask) c.as_slice-2.ensures.value)) in
    let own = subst (λ (h : Graph). AreRoutes h c.in-Some.routes.now) (sym c.mesh-mesh.ensures.same) serve.0 in
    path_kept g c.args.self.now.graph c.as_slice.result.now c.args.mask c.args.from c.args.to c.mesh-mesh.ensures.ready.valid c.as_slice.ensures same c.in-Some.routes.now c.path_to.result own serve.1 c.path_to.ensures

pub returns : goal.returns
returns c =
    let g = c.mesh-mesh.result.now.graph in
    let same : g ≡ c.args.self.now.graph = c.mesh-mesh.ensures.same ∙ ap (λ (f : ForestView). f.graph) c.self.view_is in
    path_anew g c.args.self.now.graph c.as_slice.result.now c.args.mask c.args.from c.args.to c.mesh-mesh.ensures.ready.valid c.as_slice.ensures same c.in_ok-tree.tree c.path_to-2.result c.in_ok-tree.ensures.best c.path_to-2.ensures
