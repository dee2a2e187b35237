use Rattle.std.proofs.Common.{◌≡◌, ◌++◌, map, take, drop}
use Rattle.std.specs.List.{list_any}
use Rattle.lsdb.specs.Entry.{entry_of, has_ports, has_flags, aged}
use Rattle.lsdb.specs.Place.{with_entry}
use Rattle.lsdb.proofs.database.age_all.Given as goal

abbrev pub invariant-loop-h : goal.invariant-loop-h
invariant-loop-h l =
    (l.h-items ≡ map (with_entry (aged l.up)) (take l.h-index l.fn.held.items) ++ drop l.h-index l.fn.held.items)
    × (has_ports l.flagged ≡ list_any (λ h. has_flags (aged l.up (entry_of h))) (take l.h-index l.fn.held.items))
