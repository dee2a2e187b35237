use Rattle.std.proofs.Common.{◌≡◌, ◌-◌, ◌≤◌, length}
use Rattle.network_model.specs.State.{links_of}
use Rattle.network_model.specs.Restarting.{cut_from}
use Rattle.spb_network.specs.Network.{state_of, IsInOrder}
use Rattle.spb_network.proofs.network.NetworkOf.cut_links.Given as goal

abbrev pub invariant-loop-place : goal.invariant-loop-place
invariant-loop-place g l =
    (IsInOrder g.B.Bridge.shown l.self) ×
    (l.place ≤ l.place-end) ×
    (l.self.world ≡ l.fn.self.world) ×
    (l.self.rack ≡ l.fn.self.rack) ×
    (cut_from (l.place-end - l.place) l.place l.fn.i (state_of g.B.Bridge.shown l.self)
    ≡ cut_from (length (links_of (state_of g.B.Bridge.shown l.fn.self))) 0 l.fn.i (state_of g.B.Bridge.shown l.fn.self))
