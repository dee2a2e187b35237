use Rattle.ect_trees.proofs.Least.{best_unique}
use Rattle.ect_trees.proofs.laws.best_is_unique.Goals as goal

pub returns : goal.returns
returns c = best_unique
