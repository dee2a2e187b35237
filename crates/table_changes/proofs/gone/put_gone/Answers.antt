use Rattle.std.proofs.Common.{drop}
use Rattle.table_changes.specs.Changes.{all_rows, change_at}
use Rattle.table_changes.proofs.Order.{Ascends-drop}
use Rattle.table_changes.proofs.Pass.{turn}
use Rattle.table_changes.proofs.gone.put_gone.Goals as goal

pub loop-place-preserved : goal.loop-place-preserved
loop-place-preserved c =
    let rows = all_rows c.args.tables.now in
    let others = all_rows c.args.others.now in
    turn (change_at c.args.bridge c.args.added) c.loop-place.changes.items c.put_unless.new.changes.items _ c.row_at-row.result
    (drop c.loop-place.place rows) _ (drop c.loop-place.next others) _ c.is_at-is_there.result
    (Ascends-drop c.loop-place.place rows c.requires.rows) (Ascends-drop c.loop-place.next others c.requires.others)
    c.row_at-row.ensures c.passed-next.ensures c.is_at-is_there.ensures c.in_ok-put_unless.ensures c.loop-place.invariant
