use Rattle.ect_trees.proofs.Kept.{paths_on_ways, paths_in_tree}
use Rattle.ect_trees.proofs.routes.Routes.path_to.Goals as goal

pub returns-in-Steps : goal.returns-in-Steps
returns-in-Steps c =
    paths_on_ways c.args.mesh.now.graph c.args.self.now c.in-Steps.steps c.in-Steps.field-1 c.args.source c.args.to c.as_slice.result.now c.path_by.result c.in-Steps.is
    c.as_slice.ensures.value c.path_by.ensures

pub returns-in-Whole : goal.returns-in-Whole
returns-in-Whole c =
    paths_in_tree c.args.mesh.now.graph c.args.self.now c.in-Whole.tree c.args.source c.args.to c.path_to.result c.in-Whole.is c.path_to.ensures
