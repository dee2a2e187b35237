use Rattle.network_model.proofs.RestartNew.{restart_is_new}
use Rattle.network_model.proofs.laws.a_restart_begins_anew.Goals as goal

pub returns : goal.returns
returns c = restart_is_new
