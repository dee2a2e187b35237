use Rattle.std.proofs.Common.{◌≡◌, ◌++◌, map}
use Rattle.std.specs.Map.Iter.{deref_pair}
use Rattle.fdb_build.specs.Making.{row_of}
use Rattle.fdb_build.proofs.groups.put_rows.Given as goal

abbrev pub invariant-loop-mac : goal.invariant-loop-mac
invariant-loop-mac l = l.rows.items ≡ l.fn.rows.items ++ map (row_of l.vid) (map deref_pair l.yielded)
