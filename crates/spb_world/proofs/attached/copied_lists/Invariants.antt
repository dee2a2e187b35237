use Rattle.std.proofs.Common.{◌≡◌, take}
use Rattle.fdb_build.specs.Making.{lists_in}
use Rattle.spb_world.proofs.attached.copied_lists.Given as goal

abbrev pub invariant-loop-list : goal.invariant-loop-list
invariant-loop-list l = lists_in l.copy.items ≡ lists_in (take l.list-index l.lists)
