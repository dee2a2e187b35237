use Rattle.std.proofs.Common.{sym, ◌∙◌, subst}
use Rattle.std.specs.Prelude.{IfSome}
use Rattle.ect_trees.specs.Routes.{AreRoutes, NoneLed}
use Rattle.fdb_build.proofs.searches.GrownSearches.leads_on.Goals as goal

pub returns : goal.returns
returns c = λ no.
    let g = c.args.roads.now in
    let own = subst (λ last. IfSome last (λ t. AreRoutes g t.now)) c.in-Some.is c.requires.can.1 in
    let none = subst (λ h. NoneLed h c.in-Some.routes.now c.args.me) c.mesh.ensures.same (c.leads_on.ensures no) in
    none c.args.from c.args.mask own (sym c.serve.ensures ∙ c.if-serve.true)
