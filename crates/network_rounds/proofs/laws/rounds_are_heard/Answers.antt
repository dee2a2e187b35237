use Rattle.network_rounds.proofs.Heard.{rounds_are_heard}
use Rattle.network_rounds.proofs.Lanes.{lanes_hold_what_is_sent}
use Rattle.network_rounds.proofs.Ports.{inbox_at_port}
use Rattle.network_rounds.proofs.laws.rounds_are_heard.Goals as goal

pub returns-clause-heard : goal.returns-clause-heard
returns-clause-heard c = rounds_are_heard

pub returns-clause-ports : goal.returns-clause-ports
returns-clause-ports c = inbox_at_port

pub returns-clause-lanes : goal.returns-clause-lanes
returns-clause-lanes c = lanes_hold_what_is_sent
