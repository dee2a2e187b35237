use Rattle.std.proofs.Common.{◌≡◌, ◌≤◌, take}
use Rattle.network_model.specs.Questions.{adjacencies_of}
use Rattle.spb_network.proofs.boxes.adjacencies_of.Given as goal

abbrev pub invariant-loop-place : goal.invariant-loop-place
invariant-loop-place g l =
    (l.place ≤ l.fn.count) ×
    (l.ports.items ≡ take l.place (adjacencies_of (g.B.Bridge.shown l.fn.bridge).view.ports))
