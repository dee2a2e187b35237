use Rattle.std.proofs.Common.{sym, ◌∙◌, subst}
use Rattle.std.specs.Prelude.{IfSome}
use Rattle.ect_trees.specs.Routes.{AreRoutes, LeadBy}
use Rattle.fdb_build.proofs.searches.GrownSearches.follower.Goals as goal

pub returns : goal.returns
returns c =
    let g = c.args.roads.now in
    let own = subst (λ last. IfSome last (λ t. AreRoutes g t.now)) c.in-Some.is c.requires.can.1 in
    let leads = subst (λ h. LeadBy h c.in-Some.routes.now c.args.me c.args.to c.follower.result) c.mesh.ensures.same c.follower.ensures in
    leads c.args.from c.args.mask own (sym c.serve.ensures ∙ c.if-serve.true)
