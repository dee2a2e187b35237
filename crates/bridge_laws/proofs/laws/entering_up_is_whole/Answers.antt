use Rattle.bridge_laws.proofs.Entering.{entering_up_is_whole}
use Rattle.bridge_laws.proofs.laws.entering_up_is_whole.Goals as goal

pub returns : goal.returns
returns c = entering_up_is_whole
