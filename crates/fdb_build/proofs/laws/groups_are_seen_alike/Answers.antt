use Rattle.fdb_build.proofs.GroupLemmas as groups
use Rattle.fdb_build.proofs.laws.groups_are_seen_alike.Goals as goal

pub returns : goal.returns
returns c = groups.same_groups
