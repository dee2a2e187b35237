use Rattle.ect_trees.proofs.Exists.{best_exists}
use Rattle.ect_trees.proofs.laws.best_exists.Goals as goal

pub returns : goal.returns
returns c = best_exists
