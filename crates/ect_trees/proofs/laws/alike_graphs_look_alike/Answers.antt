use Rattle.ect_trees.proofs.Alike.{look_alike_from_each}
use Rattle.ect_trees.proofs.Joining.{same_ports}
use Rattle.ect_trees.proofs.laws.alike_graphs_look_alike.Goals as goal

pub returns-clause-ports : goal.returns-clause-ports
returns-clause-ports c = same_ports

pub returns-clause-look : goal.returns-clause-look
returns-clause-look c = look_alike_from_each
