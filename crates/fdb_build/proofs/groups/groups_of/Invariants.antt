use Rattle.std.proofs.Common.{◌≡◌, take}
use Rattle.std.specs.List.{flat_map}
use Rattle.fdb_build.specs.Groups.{group_rows_of_vid}
use Rattle.fdb_build.specs.Making.{AreFound}
use Rattle.fdb_build.specs.declared.layout.Planned.{Planned}
use Rattle.fdb_build.proofs.groups.groups_of.Given as goal

abbrev pub invariant-loop-planned : goal.invariant-loop-planned
invariant-loop-planned g l =
    AreFound l.around.roads.now l.around.me l.found.items
    × (l.rows.items ≡ flat_map (λ (p : Planned). group_rows_of_vid l.around.roads.now l.around.me p.plan) (take l.planned-index l.plans))
