use Rattle.std.proofs.Common.{◌≡◌, ◌++◌, map, take, drop}
use Rattle.lsdb.specs.Database.{each}
use Rattle.bridge_api.specs.Ticking.{later, leaving_from, flags_cleared_at_all}
use Rattle.bridge_control.specs.Ports.{has_lost}
use Rattle.bridge_control.proofs.ports.count_down.Given as goal

abbrev pub invariant-count : goal.invariant-count
invariant-count l =
    (l.ports.items ≡ map later (take l.place l.fn.ports.items) ++ drop l.place l.fn.ports.items)
    × (l.db ≡ each (λ id e. flags_cleared_at_all (leaving_from 1 (take l.place l.fn.ports.items)) e) l.fn.db)
    × (l.lost ≡ has_lost (take l.place l.fn.ports.items))
