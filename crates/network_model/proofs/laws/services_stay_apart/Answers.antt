use Rattle.network_model.proofs.ApartLaws as apart
use Rattle.network_model.proofs.ApartWitness.{some_frame_leaves}
use Rattle.network_model.proofs.laws.services_stay_apart.Goals as goal

pub returns-clause-network : goal.returns-clause-network
returns-clause-network c = apart.services_stay_apart

pub returns-clause-command : goal.returns-clause-command
returns-clause-command c = apart.commands_keep_apart

pub returns-clause-some : goal.returns-clause-some
returns-clause-some c = some_frame_leaves
