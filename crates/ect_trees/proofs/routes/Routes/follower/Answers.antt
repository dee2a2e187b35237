use Rattle.std.proofs.Common.{subst}
use Rattle.ect_trees.specs.Followers.{FollowsOnWay, FollowsInTree}
use Rattle.ect_trees.proofs.Places.{read_bridge}
use Rattle.ect_trees.proofs.Kept.{led_on_ways, led_in_tree}
use Rattle.ect_trees.proofs.routes.Routes.follower.Goals as goal

pub returns-in-Steps : goal.returns-in-Steps
returns-in-Steps c =
    led_on_ways c.args.mesh.now.graph c.args.self.now c.in-Steps.steps c.in-Steps.field-1 c.args.me c.args.to c.follower.result c.in-Steps.is
    (λ r. subst (λ steps. FollowsOnWay r steps c.args.me c.args.to c.follower.result) c.as_slice.ensures.value (c.follower.ensures r))

pub returns-in-Whole : goal.returns-in-Whole
returns-in-Whole c =
    let g = c.args.mesh.now.graph in
    let tree = c.in-Whole.tree in
    led_in_tree g c.args.self.now tree c.args.me c.args.to c.follower_in.result c.in-Whole.is
    (λ m here. subst (λ s. FollowsInTree g tree s c.args.to c.follower_in.result) (read_bridge g c.as_slice-in-Whole.result.now c.args.me m c.requires.valid c.as_slice-in-Whole.ensures here).0 c.follower_in.ensures)
