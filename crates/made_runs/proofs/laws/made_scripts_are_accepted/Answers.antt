use Rattle.made_runs.proofs.MadeEvents.{made_is_accepted, made_is_applied}
use Rattle.made_runs.proofs.laws.made_scripts_are_accepted.Goals as goal

pub returns-clause-accepted : goal.returns-clause-accepted
returns-clause-accepted c = made_is_accepted

pub returns-clause-applied : goal.returns-clause-applied
returns-clause-applied c = made_is_applied
