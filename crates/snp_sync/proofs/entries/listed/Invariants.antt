use Rattle.std.proofs.Common.{◌≡◌, take}
use Rattle.std.specs.FinMap.{entries}
use Rattle.snp_sync.specs.SnpEntries.{is_listed}
use Rattle.snp_sync.proofs.Gathered.{gathered}
use Rattle.snp_sync.proofs.entries.listed.Given as goal

abbrev pub invariant-loop-place : goal.invariant-loop-place
invariant-loop-place l = l.entries.items ≡ gathered is_listed (take l.place (entries l.db))
