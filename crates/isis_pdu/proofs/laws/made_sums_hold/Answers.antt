use Rattle.isis_pdu.proofs.FormatLaws.{made_is_sound}
use Rattle.isis_pdu.proofs.laws.made_sums_hold.Goals as goal

pub returns : goal.returns
returns c = λ l e. made_is_sound l e
