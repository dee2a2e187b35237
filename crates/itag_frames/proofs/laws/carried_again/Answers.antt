use Rattle.itag_frames.proofs.ClassifyLaws.{carried_again}
use Rattle.itag_frames.proofs.laws.carried_again.Goals as goal

pub returns : goal.returns
returns c = carried_again
