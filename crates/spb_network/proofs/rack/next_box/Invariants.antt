use Rattle.std.proofs.Common.{◌≡◌, ◌≤◌, drop, map, length}
use Rattle.network_model.specs.State.{box_from}
use Rattle.spb_network.specs.Network.{spare}
use Rattle.spb_network.proofs.rack.next_box.Given as goal

abbrev pub invariant-loop-place : goal.invariant-loop-place
invariant-loop-place g l =
    (l.place ≤ length l.rack.items) ×
    (box_from 0 l.wanted (map (spare g.B.Bridge.shown) l.rack.items)
    ≡ box_from l.place l.wanted (drop l.place (map (spare g.B.Bridge.shown) l.rack.items)))
