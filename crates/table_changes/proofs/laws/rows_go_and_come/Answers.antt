use Rattle.table_changes.proofs.Comparing as comparing
use Rattle.table_changes.proofs.laws.rows_go_and_come.Goals as goal

pub returns : goal.returns
returns c = comparing.rows_go_and_come
