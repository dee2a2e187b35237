use Rattle.std.proofs.Common.{◌≡◌, ◌<◌, length, sym, ap, ◌∙◌, arith}
use Rattle.spb_types.specs.Graph.{systems_of}
use Rattle.ect_trees.specs.Tree.{Paths, IsGrown}
use Rattle.ect_trees.specs.Change.{WasGrown}
use Rattle.fork_trees.proofs.Kept.{passed_more, more_counted}
use Rattle.fork_trees.proofs.set.repair_trees.Goals as goal

pub loop-tree-preserved : goal.loop-tree-preserved
loop-tree-preserved c =
    let within : c.loop-tree.tree-index < length c.loop-tree.tree-items = omega arith in
    let source : c.repair.new.self.source ≡ c.tree-item.result.source = c.in_ok-repair.ensures.source ∙ ap (λ (p : Paths). p.source) (sym c.tree-item.is) in (
      passed_more (λ (p : Paths). p.source) (systems_of c.args.roads.now.bridges) (IsGrown c.args.roads.now c.args.mask) (WasGrown c.args.roads.now c.args.mask c.args.edge.now.a c.args.edge.now.b) c.loop-tree.tree-index c.loop-tree.tree-items c.tree-item.result c.repair.new.self within c.tree-item.is source c.in_ok-repair.ensures.grown c.loop-tree.invariant.0,
      more_counted c.loop-tree.anew c.in_ok-repair.field-0 c.saturating_add-anew.result c.loop-tree.tree-index (length c.args.roads.now.bridges) _ c.loop-tree.invariant.1 c.in_ok-repair.ensures.few c.saturating_add-anew.ensures,
    )
