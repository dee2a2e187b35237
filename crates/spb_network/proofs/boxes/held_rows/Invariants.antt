use Rattle.std.proofs.Common.{◌≡◌, ◌-◌, length, take}
use Rattle.network_model.specs.Questions.{rows_of}
use Rattle.spb_network.proofs.boxes.held_rows.Given as goal

abbrev pub invariant-loop-held : goal.invariant-loop-held
invariant-loop-held g l = l.rows.items ≡ take (length l.rows.items) (rows_of (g.B.Bridge.shown l.fn.bridge).view.database)

abbrev pub decreases-loop-held : goal.decreases-loop-held
decreases-loop-held g l = length (rows_of (g.B.Bridge.shown l.fn.bridge).view.database) - length l.rows.items
