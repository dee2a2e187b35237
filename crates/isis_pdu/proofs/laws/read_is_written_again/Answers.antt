use Rattle.isis_pdu.proofs.FormatLaws.{canonical_again}
use Rattle.isis_pdu.proofs.laws.read_is_written_again.Goals as goal

pub returns : goal.returns
returns c = λ bytes pdu fits was canonical. canonical_again bytes pdu fits was canonical
