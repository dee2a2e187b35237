use Rattle.bridge_laws.proofs.Advancing.{steps_advance}
use Rattle.bridge_laws.proofs.laws.own_lsps_advance.Goals as goal

pub returns : goal.returns
returns c = steps_advance
