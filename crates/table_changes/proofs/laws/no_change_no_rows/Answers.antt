use Rattle.table_changes.proofs.Comparing as comparing
use Rattle.table_changes.proofs.laws.no_change_no_rows.Goals as goal

pub returns-clause-none : goal.returns-clause-none
returns-clause-none c = comparing.same_world_same_rows

pub returns-clause-some : goal.returns-clause-some
returns-clause-some c = comparing.some_change_is_none
