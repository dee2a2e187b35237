use Rattle.std.proofs.Common.{◌≡◌, ◌≤◌, length, take}
use Rattle.spb_world.specs.Attaching.{different_isids}
use Rattle.spb_world.proofs.attaching.isid_count_by_place.Given as goal

abbrev pub invariant-loop-k : goal.invariant-loop-k
invariant-loop-k l = (l.k ≤ l.k-end) × (l.count ≤ l.k) × (l.count ≡ length (different_isids (take l.k l.fn.attached)))
