use Rattle.std.proofs.Common.{◌≡◌, None, replicate}
use Rattle.fdb_build.proofs.sets.nothing_found.Given as goal

abbrev pub invariant-loop-place : goal.invariant-loop-place
invariant-loop-place l = l.found.items ≡ replicate l._place None
