use Rattle.bridge_laws.proofs.Isolation.{sent_has_entered, left_has_entered, configured_is_placed, steps_keep_places}
use Rattle.bridge_laws.proofs.laws.services_stay_apart.Goals as goal

pub returns-clause-sent : goal.returns-clause-sent
returns-clause-sent c = sent_has_entered

pub returns-clause-left : goal.returns-clause-left
returns-clause-left c = left_has_entered

pub returns-clause-configured : goal.returns-clause-configured
returns-clause-configured c = configured_is_placed

pub returns-clause-places : goal.returns-clause-places
returns-clause-places c = steps_keep_places
