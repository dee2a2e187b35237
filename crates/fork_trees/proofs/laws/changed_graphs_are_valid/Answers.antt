use Rattle.fork_trees.proofs.WithEdge.{stays_valid}
use Rattle.fork_trees.proofs.laws.changed_graphs_are_valid.Goals as goal

pub returns : goal.returns
returns c = stays_valid
