use Rattle.std.proofs.Common.{take}
use Rattle.fork_trees.specs.Set.{HasRows}
use Rattle.fork_trees.proofs.set.rows_under.Given as goal

abbrev pub invariant-loop-mask : goal.invariant-loop-mask
invariant-loop-mask l = HasRows l.roads (take l.mask-index l.masks) l.rows.items
