use Rattle.ect_trees.proofs.KeyOrder.{keys_total, keys_tied}
use Rattle.ect_trees.proofs.laws.keys_are_ordered.Goals as goal

pub returns : goal.returns
returns c = record { total = keys_total; tied = keys_tied }
