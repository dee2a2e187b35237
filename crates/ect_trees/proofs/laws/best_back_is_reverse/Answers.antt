use Rattle.ect_trees.proofs.Least.{best_reverse}
use Rattle.ect_trees.proofs.laws.best_back_is_reverse.Goals as goal

pub returns : goal.returns
returns c = best_reverse
