use Rattle.network_rounds.proofs.Near.{bridges_are_near}
use Rattle.network_rounds.proofs.laws.bridges_are_near.Goals as goal

pub returns : goal.returns
returns c = bridges_are_near
