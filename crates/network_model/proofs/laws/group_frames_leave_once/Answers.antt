use Rattle.network_model.proofs.OnceLaws.{exactly_once, networks_deliver_once}
use Rattle.network_model.proofs.OnceWitness.{some_frame_passes}
use Rattle.network_model.proofs.laws.group_frames_leave_once.Goals as goal

pub returns-clause-counted : goal.returns-clause-counted
returns-clause-counted c = exactly_once

pub returns-clause-always : goal.returns-clause-always
returns-clause-always c = networks_deliver_once

pub returns-clause-some : goal.returns-clause-some
returns-clause-some c = some_frame_passes
