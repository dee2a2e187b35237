use Rattle.std.proofs.Common.{◌≡◌, drop}
use Rattle.table_changes.specs.Changes.{all_rows}
use Rattle.table_changes.specs.Passing.{drop_before}
use Rattle.table_changes.proofs.gone.passed.Given as goal

abbrev pub invariant-loop-place : goal.invariant-loop-place
invariant-loop-place l = drop_before l.row (drop l.place (all_rows l.tables)) ≡ drop_before l.row (drop l.next (all_rows l.tables))
