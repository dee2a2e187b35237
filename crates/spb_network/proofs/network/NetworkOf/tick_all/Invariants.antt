use Rattle.std.proofs.Common.{◌≡◌, ◌-◌, ◌≤◌}
use Rattle.network_model.specs.Events.{ticked_from, all_ticked}
use Rattle.spb_network.specs.Network.{state_of, IsInOrder}
use Rattle.spb_network.proofs.network.NetworkOf.tick_all.Given as goal

abbrev pub invariant-loop-i : goal.invariant-loop-i
invariant-loop-i g l =
    (IsInOrder g.B.Bridge.shown l.self) ×
    (l.i ≤ l.i-end) ×
    (ticked_from (l.i-end - l.i) l.i (state_of g.B.Bridge.shown l.self) ≡ all_ticked (state_of g.B.Bridge.shown l.fn.self))
