use Rattle.frame_capture.proofs.Written.{written_is_capture, written_is_listed}
use Rattle.frame_capture.proofs.laws.written_is_listed.Goals as goal

pub returns-clause-capture : goal.returns-clause-capture
returns-clause-capture c = written_is_capture

pub returns-clause-listed : goal.returns-clause-listed
returns-clause-listed c = written_is_listed
