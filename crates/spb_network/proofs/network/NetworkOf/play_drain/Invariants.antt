use Rattle.std.proofs.Common.{◌≡◌, ◌-◌, ◌≤◌}
use Rattle.network_model.specs.Captured.{seen_drained}
use Rattle.network_model.specs.Events.{drained}
use Rattle.spb_network.specs.Network.{state_of, IsInOrder}
use Rattle.spb_network.specs.Watching.{noted}
use Rattle.spb_network.proofs.network.NetworkOf.play_drain.Given as goal

abbrev pub invariant-loop : goal.invariant-loop
invariant-loop g l =
    (IsInOrder g.B.Bridge.shown l.self) ×
    (l.counter ≤ l.fn.n) ×
    (drained (l.fn.n - l.counter) (state_of g.B.Bridge.shown l.self) ≡ drained l.fn.n (state_of g.B.Bridge.shown l.fn.self)) ×
    (noted l.seen (seen_drained (l.fn.n - l.counter) (state_of g.B.Bridge.shown l.self)) ≡ noted l.fn.seen (seen_drained l.fn.n (state_of g.B.Bridge.shown l.fn.self)))
