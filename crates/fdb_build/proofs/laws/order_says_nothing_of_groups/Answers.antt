use Rattle.fdb_build.proofs.GroupLemmas as groups
use Rattle.fdb_build.proofs.laws.order_says_nothing_of_groups.Goals as goal

pub returns : goal.returns
returns c = groups.order_says_nothing_of_groups
