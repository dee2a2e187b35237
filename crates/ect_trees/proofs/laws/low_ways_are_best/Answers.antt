use Rattle.ect_trees.proofs.Low.{low_is_best, best_is_low}
use Rattle.ect_trees.proofs.laws.low_ways_are_best.Goals as goal

pub returns-clause-best : goal.returns-clause-best
returns-clause-best c = low_is_best

pub returns-clause-low : goal.returns-clause-low
returns-clause-low c = best_is_low
