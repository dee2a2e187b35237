use Rattle.std.proofs.Common.{IfSome, sym, subst}
use Rattle.spb_types.specs.declared.graph.Graph.{Graph}
use Rattle.ect_trees.specs.Arcs.{IsBridgeAt}
use Rattle.ect_trees.specs.Followers.{IsFollower, FollowsInTree}
use Rattle.ect_trees.specs.Laws.{AreAlike}
use Rattle.ect_trees.specs.Tree.{GivesBest}
use Rattle.ect_trees.proofs.Places.{read_bridge}
use Rattle.ect_trees.proofs.TreesAlike.{follower_alike}
use Rattle.ect_trees.proofs.roads.Roads.follower_by.Goals as goal

pub returns : goal.returns
returns g c =
    let roads : Graph = c.self.inside.mesh.graph in
    let kept : Graph = g.T.Trees.graph c.args.trees.now in
    let bs = c.as_slice-bridges.result.now in
    let tree = c.unwrap-tree.result.now in
    let place = c.follower_in.result in
    let alike : AreAlike roads kept = subst (λ r. AreAlike r kept) (sym c.self.view_is) c.requires.alike in
    λ a m whence here.
    let from = read_bridge roads bs c.args.from a c.self.invariant.valid c.as_slice-bridges.ensures (subst (λ r. IsBridgeAt r c.args.from a) (sym c.self.view_is) whence) in
    let own = read_bridge roads bs c.args.me m c.self.invariant.valid c.as_slice-bridges.ensures (subst (λ r. IsBridgeAt r c.args.me m) (sym c.self.view_is) here) in
    let found : IfSome c.tree_of.result (λ t. GivesBest kept c.args.mask a t.now) = subst (λ s. IfSome c.tree_of.result (λ t. GivesBest kept c.args.mask s t.now)) from.0 c.tree_of.ensures.best in
    let best : GivesBest kept c.args.mask a tree = subst (λ o. IfSome o (λ t. GivesBest kept c.args.mask a t.now)) c.unwrap-tree.ensures found in
    let follows : FollowsInTree roads tree m c.args.to place = subst (λ s. FollowsInTree roads tree s c.args.to place) own.0 c.follower_in.ensures in
    subst (λ r. IsFollower r c.args.mask a m c.args.to place) c.self.view_is
    (follower_alike roads kept c.args.mask a m c.args.to place tree c.self.invariant.valid c.requires.valid alike best follows)
