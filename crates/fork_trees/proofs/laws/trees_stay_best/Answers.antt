use Rattle.fork_trees.proofs.Changes as changes
use Rattle.fork_trees.proofs.laws.trees_stay_best.Goals as goal

pub returns-clause-stay : goal.returns-clause-stay
returns-clause-stay c = changes.trees_stay_best

pub returns-clause-some : goal.returns-clause-some
returns-clause-some c = changes.some_trees_change
