use Rattle.bridge_rounds.proofs.SentAtPorts.{seconds_send_at_port}
use Rattle.bridge_rounds.proofs.seconds.seconds_send_at_port.Goals as goal

pub returns : goal.returns
returns c = seconds_send_at_port
