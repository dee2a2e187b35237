-- The events of a network. Each is what one bridge does, or what becomes of one lane or link.
use Rattle.std.specs.Prelude.{ℕ, zero, suc, ◌+◌, ◌-◌, ◌^◌, min, List, [], ◌∷◌, ◌++◌, length, map, Bool, true, false, Option, Some, None, slice_get, if◌then◌else◌}
use Rattle.std.specs.Option.{option_map_or}
use Rattle.link_model.specs.Lane.{Frame, pushed, after_lose, after_double}
use Rattle.spb_types.specs.declared.service.Mode.{Mode}
use Rattle.spb_types.specs.declared.link.Dir.{Dir}
use Rattle.spb_types.specs.declared.link.Dir.TheVariants.{Ab, Ba}
use Rattle.spb_types.specs.declared.link.Side.{Side}
use Rattle.spb_types.specs.declared.service.Attachment.{Attachment}
use Rattle.spb_types.specs.declared.service.Vid.{Vid}
use Rattle.bridge_api.specs.Services.{attachment_of}
use Rattle.bridge_api.specs.Step as comes
use Rattle.bridge_api.specs.Step.{Input, step, sent, left_by}
use Rattle.network_model.specs.declared.answer.Out.{Out}
use Rattle.spb_world.specs.declared.declaration.DeclaredLink.{DeclaredLink}
use Rattle.spb_world.specs.declared.declaration.LinkEnd.{LinkEnd}
use Rattle.link_model.specs.declared.lanes.LaneId.{LaneId}
use Rattle.link_model.specs.Lanes.{rest, no_frames, first_full_from}
use Rattle.spb_world.specs.World.{names_of, vid_of_isid}
use Rattle.spb_world.specs.Declaring.{end_on, with_live, with_end_metric}
use Rattle.spb_world.specs.Attaching.{with_attachment_at, without_attachment_at}
use Rattle.spb_types.specs.Places.{changed_at}
use Rattle.network_model.specs.State.{State, links_of, lane_at, with_frames}
use Rattle.spb_world.specs.Links.{is_live, far_end, lane_out}

-- a frame goes into a lane whose link is up; it is lost where there is no such lane, and where the lane is
-- full
abbrev pub sent_over : State → Option LaneId → Frame → State
sent_over s None frame = s
sent_over s (Some lane) frame =
    if is_live (links_of s) lane.link then with_frames (λ frames. pushed frames frame) s lane.link lane.dir else s

-- the bridge at place i sends frames, each at a port
abbrev pub sent_all : State → ℕ → List (ℕ × Frame) → State
sent_all s i [] = s
sent_all s i (f ∷ fs) = sent_all (sent_over s (lane_out (links_of s) i f.0) f.1) i fs

-- frames that leave a bridge of this name, each at a customer port
abbrev pub outs_at : Option (List ℕ) → List (ℕ × Frame) → List Out
outs_at None frames = []
outs_at (Some name) frames = map (λ f. record { bridge = name; port = f.0; frame = f.1 }) frames

-- frames left the bridge at place i
abbrev pub left_all : State → ℕ → List (ℕ × Frame) → State
left_all s i frames = record s { outs = s.outs ++ outs_at (slice_get (names_of s.world.bridges) i) frames }

-- something comes to the bridge at place i: what it sends is on its way at once, and what leaves has left
unfoldable pub stepped : Input → State → ℕ → State
stepped input s i = left_all (sent_all (record s { views = changed_at (step input) s.views i }) i
    (option_map_or (sent input) (slice_get s.views i) [])) i (option_map_or (left_by input) (slice_get s.views i) [])

-- a count of seconds goes up by one, and stops at the greatest number of 32 bits
abbrev pub next_tick : ℕ → ℕ
next_tick n = min (n + 1) (2 ^ 32 - 1)

-- one second more of the bridge at place i is counted
abbrev pub with_second : State → ℕ → State
with_second s i = record s { ticks = changed_at next_tick s.ticks i }

-- a second of the bridge at place i
abbrev pub ticked : State → ℕ → State
ticked s i = with_second (stepped comes.second s i) i

-- a frame comes to the far end of a link
abbrev pub heard_over : State → Dir → Frame → Option DeclaredLink → State
heard_over s dir bytes None = s
heard_over s dir bytes (Some l) = stepped (comes.frame (far_end dir l).port bytes) s (far_end dir l).bridge

abbrev pub delivered_front : State → ℕ → Dir → Option Frame → State
delivered_front s k dir None = s
delivered_front s k dir (Some bytes) = heard_over (with_frames rest s k dir) dir bytes (slice_get (links_of s) k)

-- the frame at the front of a lane of the link at place k is delivered; nothing happens where there is none
unfoldable pub delivered : State → ℕ → Dir → State
delivered s k dir = delivered_front s k dir (slice_get (lane_at s k dir) 0)

-- the frame at a place of a lane is lost, or doubled
abbrev pub lost : State → ℕ → Dir → ℕ → State
lost s k dir place = with_frames (λ frames. after_lose frames place) s k dir

abbrev pub doubled : State → ℕ → Dir → ℕ → State
doubled s k dir place = with_frames (λ frames. after_double frames place (slice_get frames place)) s k dir

-- carrier comes to an end of a link, or goes
abbrev pub with_carrier_at_end : Bool → State → LinkEnd → State
with_carrier_at_end on s e = stepped (comes.carrier e.port on) s e.bridge

-- and so at end a, then at end b
abbrev pub with_carrier_over : Bool → State → Option DeclaredLink → State
with_carrier_over on s None = s
with_carrier_over on s (Some l) = with_carrier_at_end on (with_carrier_at_end on s l.a) l.b

-- an end of a link gets its metric
abbrev pub with_metric_at_end : State → LinkEnd → State
with_metric_at_end s e = stepped (comes.metric e.port e.metric) s e.bridge

-- and so do both, end a before end b
abbrev pub with_metrics_over : State → DeclaredLink → State
with_metrics_over s l = with_metric_at_end (with_metric_at_end s l.a) l.b

-- the bridge at an end of a link is told the metric there
abbrev pub with_metric_on : Side → State → Option DeclaredLink → State
with_metric_on side s None = s
with_metric_on side s (Some l) = with_metric_at_end s (end_on side l)

-- an end of the link at place k gets this metric, and its bridge is told it
unfoldable pub with_metric_changed : State → ℕ → Side → ℕ → State
with_metric_changed s k side m = let t : State = record s { world = with_end_metric side m s.world k } in
    with_metric_on side t (slice_get (links_of t) k)

-- a customer port of the bridge at place i is attached
abbrev pub with_attached_port : State → ℕ → Attachment → State
with_attached_port s i a = stepped (comes.attach a) (record s { world = with_attachment_at s.world i a }) i

-- and so it is to an I-SID in the base VID that was found for it
abbrev pub attached_in_found : State → ℕ → ℕ → ℕ → Mode → Option Vid → State
attached_in_found s i port isid mode None = s
attached_in_found s i port isid mode (Some vid) =
    with_attached_port s i (attachment_of port (record { value = isid }) vid mode)

-- a customer port of the bridge at place i is attached to the service of an I-SID, to send, to receive or to do both
unfoldable pub port_attached : State → ℕ → ℕ → ℕ → Mode → State
port_attached s i port isid mode = attached_in_found s i port isid mode (vid_of_isid s.world.services isid)

-- a customer port of the bridge at place i is detached
unfoldable pub port_detached : State → ℕ → ℕ → State
port_detached s i port = stepped (comes.detach port) (record s { world = without_attachment_at s.world i port }) i

-- a customer's frame enters at a customer port of the bridge at place i
abbrev pub frame_entered : State → ℕ → ℕ → Frame → State
frame_entered s i port bytes = stepped (comes.customer port bytes) s i

-- both lanes of the link at place k lose their frames
abbrev pub flushed : State → ℕ → State
flushed s k = record s { lanes = changed_at (λ lanes. no_frames) s.lanes k }

-- the link at place k goes down: its lanes are empty, and both ends lose carrier
unfoldable pub switched_off : State → ℕ → State
switched_off s k = let t : State = flushed s k in
    with_carrier_over false (record t { world = with_live false t.world k }) (slice_get (links_of s) k)

-- the link at place k comes up: both ends get carrier
unfoldable pub switched_on : State → ℕ → State
switched_on s k = with_carrier_over true (record s { world = with_live true s.world k }) (slice_get (links_of s) k)

-- so many bridges tick, from place i on
abbrev pub ticked_from : ℕ → ℕ → State → State
ticked_from zero i s = s
ticked_from (suc n) i s = ticked_from n (i + 1) (ticked s i)

-- so many frames of a lane are delivered
abbrev pub delivered_times : ℕ → ℕ → Dir → State → State
delivered_times zero k dir s = s
delivered_times (suc n) k dir s = delivered_times n k dir (delivered s k dir)

-- as many frames of a lane are delivered as it holds
unfoldable pub lane_served : State → ℕ → Dir → State
lane_served s k dir = delivered_times (length (lane_at s k dir)) k dir s

-- both lanes of a link are served, ab before ba
abbrev pub link_served : State → ℕ → State
link_served s k = lane_served (lane_served s k Ab) k Ba

-- so many links are served, from place k on
abbrev pub served_from : ℕ → ℕ → State → State
served_from zero k s = s
served_from (suc n) k s = served_from n (k + 1) (link_served s k)

-- every bridge ticks, in order of declaration
abbrev pub all_ticked : State → State
all_ticked s = ticked_from (length s.views) 0 s

-- every link is served, in order of declaration
abbrev pub all_served : State → State
all_served s = served_from (length s.lanes) 0 s

-- a round: each bridge ticks, and then each link is served
unfoldable pub one_round : State → State
one_round s = all_served (all_ticked s)

abbrev pub rounds : ℕ → State → State
rounds zero s = s
rounds (suc n) s = rounds n (one_round s)

abbrev pub delivered_over : State → Option LaneId → State
delivered_over s None = s
delivered_over s (Some lane) = delivered s lane.link lane.dir

-- one delivery from the first lane that isn't empty
unfoldable pub delivered_first : State → State
delivered_first s = delivered_over s (first_full_from 0 s.lanes)

-- at most so many deliveries, each from the first lane that isn't empty
abbrev pub drained : ℕ → State → State
drained zero s = s
drained (suc n) s = drained n (delivered_first s)
