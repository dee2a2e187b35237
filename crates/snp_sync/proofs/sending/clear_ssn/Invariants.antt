use Rattle.std.proofs.Common.{drop}
use Rattle.snp_sync.proofs.Within.{Clears}
use Rattle.snp_sync.proofs.sending.clear_ssn.Given as goal

abbrev pub invariant-loop-k : goal.invariant-loop-k
invariant-loop-k l = Clears l.port (drop l.k l.places) l.fn.db l.db
