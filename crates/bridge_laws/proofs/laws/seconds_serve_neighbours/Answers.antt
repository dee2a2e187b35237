use Rattle.bridge_api.proofs.Serving.{seconds_serve, seconds_leave_nothing_due}
use Rattle.bridge_laws.proofs.laws.seconds_serve_neighbours.Goals as goal

pub returns-clause-sent : goal.returns-clause-sent
returns-clause-sent c = seconds_serve

pub returns-clause-nothing_due : goal.returns-clause-nothing_due
returns-clause-nothing_due c = seconds_leave_nothing_due
