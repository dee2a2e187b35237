use Rattle.std.proofs.Common.{◌<◌, ◌*◌, length, sym, ap, arith}
use Rattle.fork_trees.specs.declared.set.Row.{Row}
use Rattle.fork_trees.specs.Set.{masks_of, AreTrees, WereTrees}
use Rattle.fork_trees.proofs.Kept.{passed_more, more_counted}
use Rattle.fork_trees.proofs.set.repair_rows.Goals as goal

pub loop-row-preserved : goal.loop-row-preserved
loop-row-preserved c =
    let within : c.loop-row.row-index < length c.loop-row.row-items = omega arith in
    let count = length c.args.roads.now.bridges in (
      passed_more (λ (r : Row). r.mask) (masks_of c.args.rows.now.items) (λ (r : Row). AreTrees c.args.roads.now r.mask r.trees.items) (λ (r : Row). WereTrees c.args.roads.now c.args.edge.now r.mask r.trees.items) c.loop-row.row-index c.loop-row.row-items c.row-item.result _ within c.row-item.is (ap (λ (r : Row). r.mask) (sym c.row-item.is)) c.in_ok-repair_trees.ensures.trees c.loop-row.invariant.0,
      more_counted c.loop-row.anew c.in_ok-repair_trees.field-0 c.saturating_add-anew.result c.loop-row.row-index (count * count) _ c.loop-row.invariant.1 c.in_ok-repair_trees.ensures.few c.saturating_add-anew.ensures,
    )
