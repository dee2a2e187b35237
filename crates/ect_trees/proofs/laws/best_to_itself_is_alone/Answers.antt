use Rattle.ect_trees.proofs.Steps.{best_to_itself}
use Rattle.ect_trees.proofs.laws.best_to_itself_is_alone.Goals as goal

pub returns : goal.returns
returns c = best_to_itself
