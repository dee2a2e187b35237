use Rattle.std.proofs.Common.{drop}
use Rattle.std.specs.FinMap.{entries}
use Rattle.snp_sync.proofs.Within.{Gathers}
use Rattle.snp_sync.proofs.entries.entries_with_ssn.Given as goal

abbrev pub invariant-loop-k : goal.invariant-loop-k
invariant-loop-k l = Gathers l.port (drop l.k l.places) (entries l.db) l.entries.items
