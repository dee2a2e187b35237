use Rattle.ect_trees.proofs.Alike as alike
use Rattle.ect_trees.proofs.laws.order_says_nothing.Goals as goal

pub returns : goal.returns
returns c = alike.order_says_nothing
