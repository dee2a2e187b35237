use Rattle.std.proofs.Common.{◌≡◌, ◌++◌, map, drop}
use Rattle.table_changes.specs.Changes.{all_rows, change_at}
use Rattle.table_changes.proofs.Pass.{lacked}
use Rattle.table_changes.proofs.gone.put_gone.Given as goal

abbrev pub invariant-loop-place : goal.invariant-loop-place
invariant-loop-place l =
    l.changes.items ++ map (change_at l.bridge l.added) (lacked (drop l.place (all_rows l.tables)) (drop l.next (all_rows l.others)))
    ≡ l.fn.changes.items ++ map (change_at l.bridge l.added) (lacked (all_rows l.tables) (all_rows l.others))
