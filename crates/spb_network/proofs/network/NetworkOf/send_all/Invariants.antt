use Rattle.std.proofs.Common.{◌≡◌}
use Rattle.network_model.specs.Events.{sent_all}
use Rattle.spb_network.specs.Network.{state_of}
use Rattle.spb_network.proofs.network.NetworkOf.send_all.Given as goal

abbrev pub invariant-loop-port : goal.invariant-loop-port
invariant-loop-port g l =
    (sent_all (state_of g.B.Bridge.shown l.self) l.i l.port-iterator.rest.items
    ≡ sent_all (state_of g.B.Bridge.shown l.fn.self) l.i l.fn.frames.items) ×
    (l.self.boxes ≡ l.fn.self.boxes)
