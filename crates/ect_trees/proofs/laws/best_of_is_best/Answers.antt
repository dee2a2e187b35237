use Rattle.ect_trees.proofs.Exists.{best_of_none, best_of_some}
use Rattle.ect_trees.proofs.laws.best_of_is_best.Goals as goal

pub returns-clause-none : goal.returns-clause-none
returns-clause-none c = best_of_none

pub returns-clause-some : goal.returns-clause-some
returns-clause-some c = best_of_some
