use Rattle.std.proofs.Common.{◌≡◌, ℕ, take}
use Rattle.spb_types.specs.Ports.{has}
use Rattle.fdb_build.specs.Making.{is_towards, sets_from, source_at, AreFound}
use Rattle.fdb_build.proofs.sets.ports_behind.Given as goal

abbrev pub invariant-loop-place : goal.invariant-loop-place
invariant-loop-place g l =
    AreFound l.around.roads.now l.around.me l.found.items
    × ((p : ℕ) → has l.ports p ≡ is_towards (sets_from l.around.roads.now l.around.me l.plan (source_at l.around.roads.now l.source).id.system) (take l.place-index l.places) p)
