use Rattle.ect_trees.proofs.Reached.{looks_back, looks_on}
use Rattle.ect_trees.proofs.laws.looks_are_shared.Goals as goal

pub returns-clause-back : goal.returns-clause-back
returns-clause-back c = looks_back

pub returns-clause-on : goal.returns-clause-on
returns-clause-on c = looks_on
