use Rattle.forwarding.proofs.Apart.{leaves_in_its_service, sent_in_its_service, delivered_in_its_service}
use Rattle.forwarding.proofs.laws.services_stay_apart.Goals as goal

pub returns-clause-leaves : goal.returns-clause-leaves
returns-clause-leaves c = leaves_in_its_service

pub returns-clause-sent : goal.returns-clause-sent
returns-clause-sent c = sent_in_its_service

pub returns-clause-delivered : goal.returns-clause-delivered
returns-clause-delivered c = delivered_in_its_service
