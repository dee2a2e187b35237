use Rattle.std.proofs.Common.{◌≡◌, length, take}
use Rattle.spb_world.specs.Attaching.{isids_of}
use Rattle.spb_world.proofs.attaching.put_isids.Given as goal

abbrev pub invariant-loop-k : goal.invariant-loop-k
invariant-loop-k l = (length l.isids ≡ length l.attached) × (take l.k l.isids ≡ take l.k (isids_of l.attached))
