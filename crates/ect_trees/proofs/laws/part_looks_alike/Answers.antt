use Rattle.ect_trees.proofs.Cut.{some_graph_is_cut}
use Rattle.ect_trees.proofs.Reached as reached
use Rattle.ect_trees.proofs.laws.part_looks_alike.Goals as goal

pub returns-clause-look : goal.returns-clause-look
returns-clause-look c = reached.part_looks_alike

pub returns-clause-some : goal.returns-clause-some
returns-clause-some c = some_graph_is_cut
