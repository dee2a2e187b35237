use Rattle.bridge_api.proofs.Time.{neighbours_are_kept, neighbours_are_lost, keeps_somebody}
use Rattle.bridge_laws.proofs.laws.silent_neighbours_are_lost.Goals as goal

pub returns-clause-kept : goal.returns-clause-kept
returns-clause-kept c = neighbours_are_kept

pub returns-clause-lost : goal.returns-clause-lost
returns-clause-lost c = neighbours_are_lost

pub returns-clause-some : goal.returns-clause-some
returns-clause-some c = keeps_somebody c.control_again.ensures
