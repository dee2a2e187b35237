use Rattle.std.proofs.Common.{◌∙◌, sym, ap, subst}
use Rattle.ect_trees.specs.Forest.{ForestView, kept}
use Rattle.ect_trees.specs.Followers.{IsFollowerAt}
use Rattle.ect_trees.specs.Routes.{LeadBy}
use Rattle.ect_trees.proofs.Kept.{found_anew}
use Rattle.ect_trees.proofs.Keeping.{kept_serve}
use Rattle.ect_trees.proofs.forest.Forest.follower.Goals as goal

pub returns-in-Some-clause-follower : goal.returns-in-Some-clause-follower
returns-in-Some-clause-follower c =
    let place = c.follower.result in
    let serve = kept_serve c.self.inside.roads c.self.inside.rows.items c.args.from c.args.mask c.in-Some.routes.now c.self.invariant.1 (sym (c.in-Some.ensures ∙ ap (λ rows. kept rows c.args.from c.args.mask) c.as_slice.ensures.value)) in
    let leads = subst (λ g. LeadBy g c.in-Some.routes.now c.args.me c.args.to place) c.mesh-mesh.ensures.same c.follower.ensures in
    subst (λ g. IsFollowerAt g c.args.mask c.args.from c.args.me c.args.to place) (ap (λ (f : ForestView). f.graph) c.self.view_is) (leads c.args.from c.args.mask serve.0 serve.1)

pub returns-clause-follower : goal.returns-clause-follower
returns-clause-follower c =
    found_anew c.mesh-mesh.result.now.graph c.args.self.now.graph c.as_slice-bridges.result.now c.args.mask c.args.from c.args.me c.args.to c.follower_anew.result
    c.mesh-mesh.ensures.ready.valid c.as_slice-bridges.ensures (c.mesh-mesh.ensures.same ∙ ap (λ (f : ForestView). f.graph) c.self.view_is) c.follower_anew.ensures
