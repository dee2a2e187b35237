use Rattle.bridge_rounds.proofs.CalmSeconds.{seconds_are_calm}
use Rattle.bridge_rounds.proofs.seconds.seconds_are_calm.Goals as goal

pub returns : goal.returns
returns c = seconds_are_calm
