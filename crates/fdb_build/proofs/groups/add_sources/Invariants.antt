use Rattle.std.proofs.Common.{take}
use Rattle.fdb_build.specs.Making.{Grew, is_from_some, AreFound}
use Rattle.fdb_build.proofs.groups.add_sources.Given as goal

abbrev pub invariant-loop-place : goal.invariant-loop-place
invariant-loop-place g l =
    AreFound l.around.roads.now l.around.me l.found.items
    × Grew l.fn.rows l.rows (is_from_some l.around.roads.now l.around.me l.planned.plan l.planned.services (take l.place l.around.roads.now.bridges))
