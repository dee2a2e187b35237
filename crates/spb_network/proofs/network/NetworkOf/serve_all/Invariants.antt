use Rattle.std.proofs.Common.{◌≡◌, ◌-◌, ◌≤◌}
use Rattle.network_model.specs.Captured.{seen_from, all_seen}
use Rattle.network_model.specs.Events.{served_from, all_served}
use Rattle.spb_network.specs.Network.{state_of, IsInOrder}
use Rattle.spb_network.specs.Watching.{noted}
use Rattle.spb_network.proofs.network.NetworkOf.serve_all.Given as goal

abbrev pub invariant-loop-link : goal.invariant-loop-link
invariant-loop-link g l =
    (IsInOrder g.B.Bridge.shown l.self) ×
    (l.link ≤ l.link-end) ×
    (served_from (l.link-end - l.link) l.link (state_of g.B.Bridge.shown l.self) ≡ all_served (state_of g.B.Bridge.shown l.fn.self)) ×
    (noted l.seen (seen_from (l.link-end - l.link) l.link (state_of g.B.Bridge.shown l.self)) ≡ noted l.fn.seen (all_seen (state_of g.B.Bridge.shown l.fn.self)))
