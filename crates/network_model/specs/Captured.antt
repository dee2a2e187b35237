-- The frames that commands deliver, each with the seconds that the bridge had to which it came.
use Rattle.std.specs.Prelude.{ℕ, zero, suc, ◌+◌, List, [], ◌∷◌, ◌++◌, length, Option, Some, None, slice_get}
use Rattle.scenario.specs.declared.command.Command.{Command}
use Rattle.scenario.specs.declared.command.Command.TheVariants as command
use Rattle.spb_types.specs.declared.link.Dir.{Dir}
use Rattle.spb_types.specs.declared.link.Dir.TheVariants.{Ab, Ba}
use Rattle.link_model.specs.Lane.{Frame}
use Rattle.link_model.specs.Lanes.{first_full_from}
use Rattle.link_model.specs.declared.lanes.LaneId.{LaneId}
use Rattle.spb_world.specs.declared.declaration.DeclaredLink.{DeclaredLink}
use Rattle.spb_world.specs.World.{place_of}
use Rattle.spb_world.specs.Links.{far_end}
use Rattle.network_model.specs.declared.delivered.Delivered.{Delivered}
use Rattle.network_model.specs.State.{State, links_of, lane_at, tick_at}
use Rattle.network_model.specs.Events.{delivered, lane_served, link_served, all_ticked, one_round, delivered_first}
use Rattle.network_model.specs.Play.{next_state}

-- ---- what an event delivers

-- a frame comes to the far end of a link
abbrev pub seen_over : State → Dir → Frame → Option DeclaredLink → List Delivered
seen_over s dir bytes None = []
seen_over s dir bytes (Some l) = record { tick = tick_at s (far_end dir l).bridge; frame = bytes } ∷ []

abbrev pub seen_front : State → ℕ → Dir → Option Frame → List Delivered
seen_front s k dir None = []
seen_front s k dir (Some bytes) = seen_over s dir bytes (slice_get (links_of s) k)

-- a delivery from a lane of the link at place k
unfoldable pub seen_at : State → ℕ → Dir → List Delivered
seen_at s k dir = seen_front s k dir (slice_get (lane_at s k dir) 0)

-- so many deliveries from a lane
abbrev pub seen_times : ℕ → ℕ → Dir → State → List Delivered
seen_times zero k dir s = []
seen_times (suc n) k dir s = seen_at s k dir ++ seen_times n k dir (delivered s k dir)

-- as many as it holds
unfoldable pub seen_lane : State → ℕ → Dir → List Delivered
seen_lane s k dir = seen_times (length (lane_at s k dir)) k dir s

-- both lanes of a link are served, ab before ba
abbrev pub seen_link : State → ℕ → List Delivered
seen_link s k = seen_lane s k Ab ++ seen_lane (lane_served s k Ab) k Ba

-- so many links are served, from place k on
abbrev pub seen_from : ℕ → ℕ → State → List Delivered
seen_from zero k s = []
seen_from (suc n) k s = seen_link s k ++ seen_from n (k + 1) (link_served s k)

-- every link is served, in order of declaration
abbrev pub all_seen : State → List Delivered
all_seen s = seen_from (length s.lanes) 0 s

-- a round: what is delivered once all bridges ticked
unfoldable pub seen_round : State → List Delivered
seen_round s = all_seen (all_ticked s)

abbrev pub seen_rounds : ℕ → State → List Delivered
seen_rounds zero s = []
seen_rounds (suc n) s = seen_round s ++ seen_rounds n (one_round s)

abbrev pub seen_over_lane : State → Option LaneId → List Delivered
seen_over_lane s None = []
seen_over_lane s (Some lane) = seen_at s lane.link lane.dir

-- one delivery from the first lane that isn't empty
unfoldable pub seen_first : State → List Delivered
seen_first s = seen_over_lane s (first_full_from 0 s.lanes)

-- at most so many, each from the first lane that isn't empty
abbrev pub seen_drained : ℕ → State → List Delivered
seen_drained zero s = []
seen_drained (suc n) s = seen_first s ++ seen_drained n (delivered_first s)

-- ---- what commands deliver

-- a delivery from a lane of the link at the place that was found for a name
abbrev pub seen_at_found : State → Dir → Option ℕ → List Delivered
seen_at_found s dir None = []
seen_at_found s dir (Some k) = seen_at s k dir

unfoldable pub seen_at_link : State → List ℕ → Dir → List Delivered
seen_at_link s name dir = seen_at_found s dir (place_of name s.world.links)

-- what an accepted command delivers, in order
abbrev pub seen_of : State → Command → List Delivered
seen_of s (command.Deliver name dir) = seen_at_link s name dir
seen_of s (command.Round n) = seen_rounds n s
seen_of s (command.Drain n) = seen_drained n s
seen_of s _ = []

-- what commands deliver, one after another
abbrev pub captured : State → List Command → List Delivered
captured s [] = []
captured s (c ∷ cs) = seen_of s c ++ captured (next_state s c) cs
