use Rattle.std.proofs.Common.{◌≡◌, length}
use Rattle.isis_pdu.specs.Tlvs.{is_whole}
use Rattle.isis_pdu.proofs.tlvs.are_whole.Given as goal

abbrev pub invariant-loop-rest : goal.invariant-loop-rest
invariant-loop-rest l = is_whole l.rest ≡ is_whole l.fn.tlvs

abbrev pub decreases-loop-rest : goal.decreases-loop-rest
decreases-loop-rest l = length l.rest
