use Rattle.std.proofs.Common.{◌≡◌, ◌≤◌, ◌+◌, length, drop}
use Rattle.bridge_api.specs.Config.{different}
use Rattle.spb_world.proofs.attaching.ascending_isid_count.Given as goal

abbrev pub invariant-loop-k : goal.invariant-loop-k
invariant-loop-k l = (l.k ≤ l.k-end) × (l.count ≤ l.k) × (l.count + length (different (drop l.k l.isids)) ≡ length (different l.isids))
