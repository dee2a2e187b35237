use Rattle.std.proofs.Common.{◌≡◌, Some, ◌++◌}
use Rattle.network_model.specs.Events.{outs_at}
use Rattle.spb_network.specs.Network.{state_of}
use Rattle.spb_network.proofs.network.NetworkOf.leave_all.Given as goal

abbrev pub invariant-loop-port : goal.invariant-loop-port
invariant-loop-port g l =
    (record (state_of g.B.Bridge.shown l.self) { outs = l.self.outs.items ++ outs_at (Some l.bridge) l.port-iterator.rest.items }
    ≡ record (state_of g.B.Bridge.shown l.fn.self) { outs = l.fn.self.outs.items ++ outs_at (Some l.bridge) l.fn.frames.items }) ×
    (l.self.boxes ≡ l.fn.self.boxes)
