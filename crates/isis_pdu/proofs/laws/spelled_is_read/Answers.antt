use Rattle.isis_pdu.proofs.Written.{spelled_is_read}
use Rattle.isis_pdu.proofs.laws.spelled_is_read.Goals as goal

pub returns : goal.returns
returns c = λ over pdu after allowed fits. spelled_is_read over pdu after allowed fits
