use Rattle.std.proofs.Common.{◌-◌}
use Rattle.lsdb.proofs.Searched.{Left}
use Rattle.lsdb.proofs.search.place_of.Given as goal

abbrev pub invariant-loop-low : goal.invariant-loop-low
invariant-loop-low l = Left l.held l.id l.low l.high

abbrev pub decreases-loop-low : goal.decreases-loop-low
decreases-loop-low l = l.high - l.low
