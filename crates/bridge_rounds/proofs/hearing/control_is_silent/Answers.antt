use Rattle.bridge_rounds.proofs.FramesHeard.{control_is_silent}
use Rattle.bridge_rounds.proofs.hearing.control_is_silent.Goals as goal

pub returns : goal.returns
returns c = control_is_silent
