use Rattle.std.proofs.Common.{◌≡◌, ◌++◌, map, take, drop}
use Rattle.lsdb.specs.Calm.{lowered_by}
use Rattle.lsdb.specs.Place.{with_entry}
use Rattle.lsdb.proofs.database.lower_all.Given as goal

abbrev pub invariant-loop-h : goal.invariant-loop-h
invariant-loop-h l = l.h-items ≡ map (with_entry (lowered_by l.seconds)) (take l.h-index l.fn.held.items) ++ drop l.h-index l.fn.held.items
