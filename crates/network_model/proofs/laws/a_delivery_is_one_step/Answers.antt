use Rattle.network_model.proofs.DeliveryLemmas.{frames_are_delivered, deliver_delivers}
use Rattle.network_model.proofs.laws.a_delivery_is_one_step.Goals as goal

pub returns-clause-delivered : goal.returns-clause-delivered
returns-clause-delivered c = frames_are_delivered

pub returns-clause-command : goal.returns-clause-command
returns-clause-command c = deliver_delivers
