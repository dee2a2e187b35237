use Rattle.ect_trees.proofs.Least.{least_is_best}
use Rattle.ect_trees.proofs.laws.no_tie_is_least.Goals as goal

pub returns : goal.returns
returns c = least_is_best
