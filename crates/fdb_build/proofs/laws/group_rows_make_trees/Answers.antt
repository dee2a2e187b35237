use Rattle.fdb_build.proofs.TreeLemmas as trees
use Rattle.fdb_build.proofs.TreeWitness.{some_service_has_transit}
use Rattle.fdb_build.proofs.laws.group_rows_make_trees.Goals as goal

pub returns-clause-rows : goal.returns-clause-rows
returns-clause-rows c = trees.rows_lead_on

pub returns-clause-towards : goal.returns-clause-towards
returns-clause-towards c = trees.rows_lead_to_followers

pub returns-clause-accept : goal.returns-clause-accept
returns-clause-accept c = trees.followers_accept

pub returns-clause-elsewhere : goal.returns-clause-elsewhere
returns-clause-elsewhere c = trees.nothing_elsewhere

pub returns-clause-together : goal.returns-clause-together
returns-clause-together c = trees.tree_hangs_together

pub returns-clause-receivers : goal.returns-clause-receivers
returns-clause-receivers c = trees.receivers_are_on_tree

pub returns-clause-some : goal.returns-clause-some
returns-clause-some c = some_service_has_transit
