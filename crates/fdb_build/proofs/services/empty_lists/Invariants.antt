use Rattle.std.proofs.Common.{◌≡◌, [], replicate}
use Rattle.fdb_build.specs.Making.{lists_in}
use Rattle.fdb_build.proofs.services.empty_lists.Given as goal

abbrev pub invariant-loop-place : goal.invariant-loop-place
invariant-loop-place l = lists_in l.lists.items ≡ replicate l._place []
