use Rattle.std.proofs.Common.{◌≡◌, ◌+◌, List, map, take, All, sym, subst}
use Rattle.spb_types.specs.Graph.{systems_of}
use Rattle.ect_trees.specs.Tree.{Paths, IsGrown}
use Rattle.fork_trees.proofs.Kept.{trees_more}
use Rattle.fork_trees.proofs.set.trees_under.Goals as goal

pub loop-bridge-preserved : goal.loop-bridge-preserved
loop-bridge-preserved c =
    subst (λ (ts : List Paths). (map (λ t. t.source) ts ≡ systems_of (take (c.loop-bridge.bridge-index + 1) c.as_slice-bridges.result.now)) × All (IsGrown c.args.roads.now c.args.mask) ts) (sym c.in_ok-push.ensures.items)
    (trees_more c.args.roads.now c.args.mask c.as_slice-bridges.result.now c.loop-bridge.bridge-index _ c.loop-bridge.trees.items c.in_ok-tree.field-0 c.loop-bridge-test.true c.in_ok-tree.ensures.best.from c.in_ok-tree.ensures.grown c.loop-bridge.invariant)
