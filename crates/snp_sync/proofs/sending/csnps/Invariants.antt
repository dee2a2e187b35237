use Rattle.std.proofs.Common.{length}
use Rattle.snp_sync.specs.SnpEntries.{snp_entries_where, is_listed}
use Rattle.snp_sync.proofs.CsnpChunks.{Ranged}
use Rattle.snp_sync.proofs.sending.csnps.Given as goal

abbrev pub invariant-loop-rest : goal.invariant-loop-rest
invariant-loop-rest l = Ranged l.me (snp_entries_where is_listed l.db) l.start l.rest l.pdus.items

abbrev pub decreases-loop-rest : goal.decreases-loop-rest
decreases-loop-rest l = length l.rest
