use Rattle.std.proofs.Common.{take}
use Rattle.fdb_build.specs.Making.{Grew, is_from, sent_at, sets_from, source_at, AreFound}
use Rattle.fdb_build.proofs.groups.add_source.Given as goal

abbrev pub invariant-loop-isid : goal.invariant-loop-isid
invariant-loop-isid g l =
    AreFound l.around.roads.now l.around.me l.found.items
    × Grew l.fn.rows l.rows (is_from l.planned.services (source_at l.around.roads.now l.place) (sets_from l.around.roads.now l.around.me l.planned.plan (source_at l.around.roads.now l.place).id.system) (take l.isid-index (sent_at l.planned.services l.place)))
