use Rattle.std.proofs.Common.{◌≡◌, length}
use Rattle.isis_pdu.specs.Checksum.{IsReduced, sums_from}
use Rattle.isis_pdu.proofs.checksum.Sums.over.Given as goal

abbrev pub invariant-loop-rest : goal.invariant-loop-rest
invariant-loop-rest l = (sums_from l.sums l.rest ≡ sums_from l.fn.self l.fn.bytes) × IsReduced l.sums

abbrev pub decreases-loop-rest : goal.decreases-loop-rest
decreases-loop-rest l = length l.rest
