use Rattle.capture_list.proofs.Telling.{frames_are_listed}
use Rattle.capture_list.proofs.laws.frames_are_listed.Goals as goal

pub returns : goal.returns
returns c = frames_are_listed
