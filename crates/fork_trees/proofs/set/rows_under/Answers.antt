use Rattle.std.proofs.Common.{◌+◌, List, take, get_or, refl, sym, subst}
use Rattle.fork_trees.specs.declared.set.Row.{Row}
use Rattle.fork_trees.specs.Set.{HasRows}
use Rattle.fork_trees.proofs.Kept.{rows_more}
use Rattle.fork_trees.proofs.set.rows_under.Goals as goal

pub loop-mask-preserved : goal.loop-mask-preserved
loop-mask-preserved c =
    subst (λ (rows : List Row). HasRows c.args.roads.now (take (c.loop-mask.mask-index + 1) c.args.masks.now) rows) (sym c.in_ok-push.ensures.items)
    (rows_more c.args.roads.now c.args.masks.now c.loop-mask.mask-index c.loop-mask.rows.items (record { mask = get_or c.args.masks.now c.loop-mask.mask-index 0; trees = c.in_ok-trees_under.field-0 }) c.loop-mask-test.true refl c.in_ok-trees_under.ensures c.loop-mask.invariant)
