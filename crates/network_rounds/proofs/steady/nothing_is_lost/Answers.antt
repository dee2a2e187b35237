use Rattle.network_rounds.proofs.Passing.{nothing_is_lost}
use Rattle.network_rounds.proofs.steady.nothing_is_lost.Goals as goal

pub returns : goal.returns
returns c = nothing_is_lost
