use Rattle.std.proofs.Common.{◌+◌, ◌∙◌, arith}
use Rattle.isis_pdu.proofs.TlvWalk.{next_slice}
use Rattle.isis_pdu.proofs.tlvs.are_whole.Goals as goal

pub loop-rest-preserved : goal.loop-rest-preserved
loop-rest-preserved c = next_slice c.loop-rest.rest.now (2 + c.from-end.result) (omega arith) (omega arith) (omega arith) ∙ c.loop-rest.invariant
