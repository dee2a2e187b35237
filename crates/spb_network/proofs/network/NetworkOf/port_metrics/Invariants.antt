use Rattle.std.proofs.Common.{◌≡◌, ◌+◌, ◌-◌, ◌≤◌, ◌++◌}
use Rattle.network_model.specs.State.{links_of}
use Rattle.spb_world.specs.Links.{port_metrics}
use Rattle.spb_network.specs.Network.{state_of}
use Rattle.spb_network.proofs.network.NetworkOf.port_metrics.Given as goal

abbrev pub invariant-loop-place : goal.invariant-loop-place
invariant-loop-place g l =
    (l.place ≤ l.fn.ports) ×
    (l.metrics.items ++ port_metrics (links_of (state_of g.B.Bridge.shown l.fn.self)) l.fn.i (l.fn.ports - l.place) (l.place + 1)
    ≡ port_metrics (links_of (state_of g.B.Bridge.shown l.fn.self)) l.fn.i l.fn.ports 1)
