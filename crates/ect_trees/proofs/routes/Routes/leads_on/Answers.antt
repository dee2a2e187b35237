use Rattle.std.proofs.Common.{subst}
use Rattle.ect_trees.specs.Followers.{NoneOnWays}
use Rattle.ect_trees.proofs.Kept.{none_led}
use Rattle.ect_trees.proofs.routes.Routes.leads_on.Goals as goal

pub returns-in-Steps : goal.returns-in-Steps
returns-in-Steps c = λ no.
    none_led c.args.mesh.now.graph c.args.self.now c.in-Steps.steps c.in-Steps.field-1 c.args.me c.in-Steps.is
    (subst (λ steps. NoneOnWays c.args.mesh.now.graph steps c.args.me) c.as_slice.ensures.value (c.leads_on.ensures no))
