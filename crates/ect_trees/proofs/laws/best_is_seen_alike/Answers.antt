use Rattle.ect_trees.proofs.Alike.{same_best}
use Rattle.ect_trees.proofs.laws.best_is_seen_alike.Goals as goal

pub returns : goal.returns
returns c = same_best
