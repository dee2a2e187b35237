use Rattle.std.proofs.Common.{◌≡◌, ◌≤◌, drop}
use Rattle.std.specs.List.{list_all}
use Rattle.spb_network.specs.Network.{state_of}
use Rattle.network_model.specs.State.{links_of}
use Rattle.network_model.specs.Quieting.{is_link_up, are_links_up}
use Rattle.spb_network.proofs.network.NetworkOf.are_links_up.Given as goal

abbrev pub invariant-loop-place : goal.invariant-loop-place
invariant-loop-place g l =
    (l.place ≤ l.place-end) ×
    (are_links_up (state_of g.B.Bridge.shown l.fn.self) ≡ list_all (is_link_up (state_of g.B.Bridge.shown l.fn.self).views) (drop l.place (links_of (state_of g.B.Bridge.shown l.fn.self))))
