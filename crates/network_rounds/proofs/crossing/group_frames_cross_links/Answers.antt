use Rattle.itag_frames.proofs.ControlLaws.{control_again}
use Rattle.network_rounds.proofs.CrossingWitness.{some_frame_crosses}
use Rattle.network_rounds.proofs.Flagged.{flags_fall}
use Rattle.network_rounds.proofs.Quieting.{rounds_settle}
use Rattle.network_rounds.proofs.crossing.group_frames_cross_links.Goals as goal

pub returns : goal.returns
returns c = some_frame_crosses (rounds_settle (flags_fall control_again))
