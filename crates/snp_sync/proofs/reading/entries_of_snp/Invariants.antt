use Rattle.std.proofs.Common.{length}
use Rattle.snp_sync.proofs.Gleaned.{Gleaned}
use Rattle.snp_sync.proofs.reading.entries_of_snp.Given as goal

abbrev pub invariant-loop-code : goal.invariant-loop-code
invariant-loop-code l = Gleaned l.tlvs l.rest l.entries.items

abbrev pub decreases-loop-code : goal.decreases-loop-code
decreases-loop-code l = length l.rest
