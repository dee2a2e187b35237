use Rattle.network_model.proofs.SoundWitness.{busy}
use Rattle.network_model.proofs.SoundMet.{bridges_meet}
use Rattle.network_model.proofs.laws.some_network_is_busy.Goals as goal

pub returns-clause-hello : goal.returns-clause-hello
returns-clause-hello c = busy

pub returns-clause-met : goal.returns-clause-met
returns-clause-met c = bridges_meet
