use Rattle.bridge_api.proofs.Time.{adjacency_second}
use Rattle.bridge_rounds.proofs.seconds.seconds_lower.Goals as goal

pub returns : goal.returns
returns c = adjacency_second
