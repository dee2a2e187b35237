use Rattle.std.proofs.Common.{◌≡◌}
use Rattle.network_model.specs.Captured.{seen_rounds}
use Rattle.network_model.specs.Events.{rounds}
use Rattle.network_model.specs.Sound.{IsSoundState}
use Rattle.spb_network.specs.Network.{state_of, IsInOrder}
use Rattle.spb_network.specs.Watching.{noted}
use Rattle.spb_network.proofs.network.NetworkOf.play_rounds.Given as goal

abbrev pub invariant-loop-left : goal.invariant-loop-left
invariant-loop-left g l =
    (IsInOrder g.B.Bridge.shown l.self) ×
    (IsSoundState (state_of g.B.Bridge.shown l.self)) ×
    (rounds l.left (state_of g.B.Bridge.shown l.self) ≡ rounds l.fn.n (state_of g.B.Bridge.shown l.fn.self)) ×
    (noted l.seen (seen_rounds l.left (state_of g.B.Bridge.shown l.self)) ≡ noted l.fn.seen (seen_rounds l.fn.n (state_of g.B.Bridge.shown l.fn.self)))

abbrev pub decreases-loop-left : goal.decreases-loop-left
decreases-loop-left g l = l.left
