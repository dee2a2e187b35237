use Rattle.fdb_build.proofs.GroupLemmas as groups
use Rattle.fdb_build.proofs.laws.group_rows_are_table.Goals as goal

pub returns : goal.returns
returns c = groups.group_rows_are_table
