use Rattle.isis_pdu.proofs.Read.{read_is_spelled}
use Rattle.isis_pdu.proofs.laws.read_is_spelled.Goals as goal

pub returns : goal.returns
returns c = λ bytes pdu fits was. read_is_spelled bytes pdu fits was
