use Rattle.std.proofs.Common.{◌≡◌, ◌++◌, map, take, drop}
use Rattle.lsdb.specs.Entry.{flags_cleared_at}
use Rattle.lsdb.specs.Place.{with_entry}
use Rattle.lsdb.proofs.database.clear_all_flags.Given as goal

abbrev pub invariant-loop-h : goal.invariant-loop-h
invariant-loop-h l = l.h-items ≡ map (with_entry (flags_cleared_at l.port)) (take l.h-index l.fn.held.items) ++ drop l.h-index l.fn.held.items
