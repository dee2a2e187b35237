use Rattle.std.proofs.Common.{◌≡◌, ◌-◌, List, length, drop}
use Rattle.std.specs.List.{list_all}
use Rattle.link_model.specs.Lane.{Frame}
use Rattle.spb_network.specs.Contents.{frames_of}
use Rattle.spb_network.specs.Network.{state_of}
use Rattle.settle_laws.specs.Premises.{frame_passes}
use Rattle.settle_laws.proofs.lanes.lane_passes.Given as goal

abbrev pub invariant-loop-frame : goal.invariant-loop-frame
invariant-loop-frame g l =
    let lane : List Frame = frames_of (state_of g.B.Bridge.shown l.fn.network) l.fn.lane in
    list_all (frame_passes l.fn.test) lane ≡ list_all (frame_passes l.fn.test) (drop l.place lane)

abbrev pub decreases-loop-frame : goal.decreases-loop-frame
decreases-loop-frame g l = length (frames_of (state_of g.B.Bridge.shown l.fn.network) l.fn.lane) - l.place
