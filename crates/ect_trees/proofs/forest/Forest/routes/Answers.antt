use Rattle.std.proofs.Common.{ap, ◌∙◌, subst}
use Rattle.std.specs.Prelude.{IfSome}
use Rattle.ect_trees.specs.Forest.{ForestView, kept}
use Rattle.ect_trees.specs.Routes.{AreRoutes}
use Rattle.ect_trees.proofs.Keeping.{kept_serves}
use Rattle.ect_trees.proofs.forest.Forest.routes.Goals as goal

pub returns-clause-routes : goal.returns-clause-routes
returns-clause-routes c =
    subst (λ g. IfSome c.kept.result (λ t. AreRoutes g t.now)) (ap (λ (f : ForestView). f.graph) c.self.view_is)
    (kept_serves c.self.inside.roads c.self.inside.rows.items c.args.from c.args.mask c.kept.result c.self.invariant.1 (c.kept.ensures ∙ ap (λ rows. kept rows c.args.from c.args.mask) c.as_slice-rows.ensures.value)).0

pub returns-clause-serve : goal.returns-clause-serve
returns-clause-serve c =
    (kept_serves c.self.inside.roads c.self.inside.rows.items c.args.from c.args.mask c.kept.result c.self.invariant.1 (c.kept.ensures ∙ ap (λ rows. kept rows c.args.from c.args.mask) c.as_slice-rows.ensures.value)).1
