use Rattle.std.proofs.Common.{◌-◌, length}
use Rattle.std.specs.FinMap.{entries}
use Rattle.spb_network.proofs.LastNumbers.{AreRead}
use Rattle.spb_network.proofs.numbers.read_numbers.Given as goal

abbrev pub invariant-loop-held : goal.invariant-loop-held
invariant-loop-held g l = AreRead (g.B.Bridge.shown l.fn.bridge).view l.place l.numbers

abbrev pub decreases-loop-held : goal.decreases-loop-held
decreases-loop-held g l = length (entries (g.B.Bridge.shown l.fn.bridge).view.database) - l.place
