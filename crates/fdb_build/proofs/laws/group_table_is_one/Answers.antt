use Rattle.fdb_build.proofs.GroupLemmas as groups
use Rattle.fdb_build.proofs.laws.group_table_is_one.Goals as goal

pub returns : goal.returns
returns c = groups.group_table_is_one
