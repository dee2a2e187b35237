use Rattle.ect_trees.proofs.TreesAlike.{trees_alike}
use Rattle.ect_trees.proofs.laws.trees_are_alike.Goals as goal

pub returns : goal.returns
returns c = trees_alike
