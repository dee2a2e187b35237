-- Lanes that are lent to be changed.
use Rattle.std.specs.Prelude.{List, Option}
use Rattle.std.specs.Borrow.{Lends, LendsIf, MutBor, Fml}
use Rattle.spb_types.specs.declared.link.Dir.{Dir}
use Rattle.link_model.specs.declared.lanes.LinkLanes.{LinkLanes}
use Rattle.link_model.specs.declared.lanes.LaneId.{LaneId}
use Rattle.link_model.specs.contracts.lane.Lane as lane
use Rattle.link_model.specs.contracts.lanes.LinkLanes as pair
use Rattle.link_model.specs.contracts.all_lanes.AllLanes as all
use Rattle.link_model.specs.Lane.{Frame}
use Rattle.link_model.specs.Lanes.{with_lane, changed_frames}

-- the lanes of a link end with the last frames behind r in a direction
abbrev pub LendsLane : MutBor LinkLanes → Dir → MutBor (List Frame) → Fml
LendsLane lanes dir r = Lends pair.the_row lane.the_row lanes r (λ frames. with_lane dir frames lanes.now)

-- and all lanes end with them in the lane of that id, if there is one
abbrev pub LendsLaneAt : MutBor (List LinkLanes) → LaneId → Option (MutBor (List Frame)) → Fml
LendsLaneAt lanes id r =
    LendsIf all.the_row lane.the_row lanes r (λ frames. changed_frames (λ _. frames) lanes.now id.link id.dir) lanes.now
