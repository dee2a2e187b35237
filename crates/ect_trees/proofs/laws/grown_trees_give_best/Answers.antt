use Rattle.ect_trees.proofs.TreesAlike.{grown_is_best}
use Rattle.ect_trees.proofs.laws.grown_trees_give_best.Goals as goal

pub returns : goal.returns
returns c = grown_is_best
