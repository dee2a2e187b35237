use Rattle.std.proofs.Common.{arith}
use Rattle.isis_pdu.proofs.FormatLaws.{answered, answered_again}
use Rattle.isis_pdu.proofs.reading.decode.Goals as goal

pub returns-clause-spelled : goal.returns-clause-spelled
returns-clause-spelled c = answered c.first_pdu.result c.args.bytes.now (λ i. omega (arith, c.type_inv.bytes i)) c.first_pdu.ensures

pub returns-clause-again : goal.returns-clause-again
returns-clause-again c = answered_again c.first_pdu.result c.args.bytes.now (λ i. omega (arith, c.type_inv.bytes i)) c.first_pdu.ensures
