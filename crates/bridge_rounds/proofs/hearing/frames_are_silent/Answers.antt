use Rattle.bridge_rounds.proofs.FramesHeard.{frames_are_silent}
use Rattle.bridge_rounds.proofs.hearing.frames_are_silent.Goals as goal

pub returns : goal.returns
returns c = frames_are_silent
