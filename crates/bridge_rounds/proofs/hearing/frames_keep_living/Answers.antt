use Rattle.bridge_rounds.proofs.LivedLsps.{frames_keep_living}
use Rattle.bridge_rounds.proofs.hearing.frames_keep_living.Goals as goal

pub returns : goal.returns
returns c = frames_keep_living
