use Rattle.fork_trees.proofs.WithEdge.{edges_stand, costs_change_there}
use Rattle.fork_trees.proofs.laws.one_edge_changes.Goals as goal

pub returns-clause-edges : goal.returns-clause-edges
returns-clause-edges c = edges_stand

pub returns-clause-costs : goal.returns-clause-costs
returns-clause-costs c = costs_change_there
