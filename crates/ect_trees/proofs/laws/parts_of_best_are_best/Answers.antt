use Rattle.ect_trees.proofs.Least.{best_front, best_back}
use Rattle.ect_trees.proofs.laws.parts_of_best_are_best.Goals as goal

pub returns-clause-front : goal.returns-clause-front
returns-clause-front c = best_front

pub returns-clause-back : goal.returns-clause-back
returns-clause-back c = best_back
