use Rattle.network_rounds.proofs.SettlingWitness.{some_network_settles}
use Rattle.network_rounds.proofs.settling.some_network_settles.Goals as goal

pub returns : goal.returns
returns c = some_network_settles
