use Rattle.itag_frames.proofs.ControlLaws.{control_again}
use Rattle.itag_frames.proofs.laws.control_again.Goals as goal

pub returns : goal.returns
returns c = control_again
