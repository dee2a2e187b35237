use Rattle.std.proofs.Common.{◌≡◌, ◌≤◌, ◌&&◌, Bool, drop}
use Rattle.std.specs.List.{list_all}
use Rattle.link_model.specs.declared.lanes.LinkLanes.{LinkLanes}
use Rattle.spb_network.specs.Network.{state_of}
use Rattle.network_model.specs.State.{State}
use Rattle.settle_laws.specs.Premises.{frame_passes}
use Rattle.settle_laws.proofs.lanes.lanes_pass.Given as goal

abbrev pub invariant-loop-link : goal.invariant-loop-link
invariant-loop-link g l =
    let s : State = state_of g.B.Bridge.shown l.fn.network in
    let both : LinkLanes → Bool = λ x. list_all (frame_passes l.fn.test) x.ab && list_all (frame_passes l.fn.test) x.ba in
    (l.link ≤ l.link-end) × (list_all both s.lanes ≡ list_all both (drop l.link s.lanes))
