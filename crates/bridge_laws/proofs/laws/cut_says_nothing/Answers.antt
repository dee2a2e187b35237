use Rattle.bridge_api.proofs.OwnTables.{cut_says_nothing, some_graph_is_own}
use Rattle.bridge_laws.proofs.laws.cut_says_nothing.Goals as goal

pub returns-clause-rows : goal.returns-clause-rows
returns-clause-rows c = cut_says_nothing

pub returns-clause-some : goal.returns-clause-some
returns-clause-some c = some_graph_is_own
