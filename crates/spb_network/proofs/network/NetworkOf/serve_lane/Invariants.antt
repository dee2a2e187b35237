use Rattle.std.proofs.Common.{◌≡◌, ◌-◌, ◌≤◌}
use Rattle.network_model.specs.Captured.{seen_times, seen_lane}
use Rattle.network_model.specs.Events.{delivered_times, lane_served}
use Rattle.spb_network.specs.Network.{state_of, IsInOrder}
use Rattle.spb_network.specs.Watching.{noted}
use Rattle.spb_network.proofs.network.NetworkOf.serve_lane.Given as goal

abbrev pub invariant-loop : goal.invariant-loop
invariant-loop g l =
    (IsInOrder g.B.Bridge.shown l.self) ×
    (l.counter ≤ l.end) ×
    (delivered_times (l.end - l.counter) l.lane.link l.lane.dir (state_of g.B.Bridge.shown l.self) ≡ lane_served (state_of g.B.Bridge.shown l.fn.self) l.lane.link l.lane.dir) ×
    (noted l.seen (seen_times (l.end - l.counter) l.lane.link l.lane.dir (state_of g.B.Bridge.shown l.self)) ≡ noted l.fn.seen (seen_lane (state_of g.B.Bridge.shown l.fn.self) l.lane.link l.lane.dir))
