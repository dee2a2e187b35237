-- What becomes of bridges, lanes and links leaves the counts of rounds and commands.
use Rattle.std.proofs.Common.{◌≡◌, ◌+◌, ℕ, zero, suc, Bool, true, false, List, [], ◌∷◌, ◌++◌, length, refl, ap, ◌∙◌, Option, Some, None, slice_get}
use Rattle.link_model.specs.Lane.{Frame}
use Rattle.link_model.specs.Lanes.{no_frames, rest, first_full_from}
use Rattle.link_model.specs.declared.lanes.LaneId.{LaneId}
use Rattle.spb_types.specs.declared.link.Dir.{Dir}
use Rattle.spb_types.specs.declared.link.Dir.TheVariants.{Ab, Ba}
use Rattle.spb_types.specs.declared.link.Side.{Side}
use Rattle.spb_types.specs.declared.service.Attachment.{Attachment}
use Rattle.spb_types.specs.declared.service.Mode.{Mode}
use Rattle.spb_types.specs.declared.service.Vid.{Vid}
use Rattle.bridge_api.specs.Services.{attachment_of}
use Rattle.bridge_api.specs.Step.{Input}
use Rattle.bridge_api.specs.Step as comes
use Rattle.spb_world.specs.declared.declaration.DeclaredBridge.{DeclaredBridge}
use Rattle.spb_world.specs.declared.declaration.DeclaredLink.{DeclaredLink}
use Rattle.spb_world.specs.declared.declaration.LinkEnd.{LinkEnd}
use Rattle.spb_world.specs.Declaring.{end_on, with_live, with_end_metric, with_link}
use Rattle.spb_world.specs.World.{vid_of_isid}
use Rattle.spb_world.specs.Attaching.{with_attachment_at, without_attachment_at}
use Rattle.network_model.specs.State.{State, links_of, lane_at, with_frames}
use Rattle.spb_world.specs.Links.{far_end}
use Rattle.network_model.specs.Events.{stepped, ticked, heard_over, delivered_front, delivered, with_carrier_at_end, with_carrier_over, with_metric_at_end, with_metrics_over, with_metric_on, with_metric_changed, attached_in_found, port_attached, port_detached, frame_entered, flushed, switched_off, switched_on, ticked_from, delivered_times, lane_served, served_from, one_round, rounds, delivered_over, delivered_first, drained}
use Rattle.network_model.specs.Play.{boxed, linked}
use Rattle.network_model.proofs.SentLanes.{stepped_rest}

-- the rounds that were asked for, and the accepted commands
abbrev pub counts : State → ℕ × ℕ
counts s = (s.rounds, s.accepted)

counts-stepped : (x : Input) (s : State) (i : ℕ) → counts (stepped x s i) ≡ counts s
counts-stepped x s i = ap counts (stepped_rest x s i)

pub counts-ticked : (s : State) (i : ℕ) → counts (ticked s i) ≡ counts s
counts-ticked s i = counts-stepped comes.second s i

heard : (s : State) (k : ℕ) (dir : Dir) (bytes : Frame) (o : Option DeclaredLink) → counts (heard_over (with_frames rest s k dir) dir bytes o) ≡ counts s
heard s k dir bytes None = refl
heard s k dir bytes (Some l) = counts-stepped (comes.frame (far_end dir l).port bytes) (with_frames rest s k dir) (far_end dir l).bridge

front : (s : State) (k : ℕ) (dir : Dir) (o : Option Frame) → counts (delivered_front s k dir o) ≡ counts s
front s k dir None = refl
front s k dir (Some bytes) = heard s k dir bytes (slice_get (links_of s) k)

pub counts-delivered : (s : State) (k : ℕ) (dir : Dir) → counts (delivered s k dir) ≡ counts s
unfolding delivered
counts-delivered s k dir = front s k dir (slice_get (lane_at s k dir) 0)

-- ---- links

pub carrier_at : (on : Bool) (s : State) (e : LinkEnd) → counts (with_carrier_at_end on s e) ≡ counts s
carrier_at on s e = counts-stepped (comes.carrier e.port on) s e.bridge

metric_at : (s : State) (e : LinkEnd) → counts (with_metric_at_end s e) ≡ counts s
metric_at s e = counts-stepped (comes.metric e.port e.metric) s e.bridge

over : (on : Bool) (s : State) (o : Option DeclaredLink) → counts (with_carrier_over on s o) ≡ counts s
over on s None = refl
over on s (Some l) = carrier_at on (with_carrier_at_end on s l.a) l.b ∙ carrier_at on s l.a

metric_on : (s : State) (side : Side) (o : Option DeclaredLink) → counts (with_metric_on side s o) ≡ counts s
metric_on s side None = refl
metric_on s side (Some l) = metric_at s (end_on side l)

pub counts-metric : (s : State) (k : ℕ) (side : Side) (m : ℕ) → counts (with_metric_changed s k side m) ≡ counts s
unfolding with_metric_changed
counts-metric s k side m = let t : State = record s { world = with_end_metric side m s.world k } in metric_on t side (slice_get (links_of t) k)

attached_found : (s : State) (i port isid : ℕ) (mode : Mode) (o : Option Vid) → counts (attached_in_found s i port isid mode o) ≡ counts s
attached_found s i port isid mode None = refl
attached_found s i port isid mode (Some vid) =
    let a : Attachment = attachment_of port (record { value = isid }) vid mode in
    counts-stepped (comes.attach a) (record s { world = with_attachment_at s.world i a }) i

pub counts-attached : (s : State) (i port isid : ℕ) (mode : Mode) → counts (port_attached s i port isid mode) ≡ counts s
unfolding port_attached
counts-attached s i port isid mode = attached_found s i port isid mode (vid_of_isid s.world.services isid)

pub counts-detached : (s : State) (i port : ℕ) → counts (port_detached s i port) ≡ counts s
unfolding port_detached
counts-detached s i port = counts-stepped (comes.detach port) (record s { world = without_attachment_at s.world i port }) i

pub counts-entered : (s : State) (i port : ℕ) (bytes : Frame) → counts (frame_entered s i port bytes) ≡ counts s
counts-entered s i port bytes = counts-stepped (comes.customer port bytes) s i

pub counts-off : (s : State) (k : ℕ) → counts (switched_off s k) ≡ counts s
unfolding switched_off
counts-off s k = let t : State = flushed s k in over false (record t { world = with_live false t.world k }) (slice_get (links_of s) k)

pub counts-on : (s : State) (k : ℕ) → counts (switched_on s k) ≡ counts s
unfolding switched_on
counts-on s k = over true (record s { world = with_live true s.world k }) (slice_get (links_of s) k)

-- ---- rounds and drains

counts-ticked_from : (n i : ℕ) (s : State) → counts (ticked_from n i s) ≡ counts s
counts-ticked_from zero i s = refl
counts-ticked_from (suc n) i s = counts-ticked_from n (i + 1) (ticked s i) ∙ counts-ticked s i

times : (n k : ℕ) (dir : Dir) (s : State) → counts (delivered_times n k dir s) ≡ counts s
times zero k dir s = refl
times (suc n) k dir s = times n k dir (delivered s k dir) ∙ counts-delivered s k dir

served : (s : State) (k : ℕ) (dir : Dir) → counts (lane_served s k dir) ≡ counts s
unfolding lane_served
served s k dir = times (length (lane_at s k dir)) k dir s

counts-served_from : (n k : ℕ) (s : State) → counts (served_from n k s) ≡ counts s
counts-served_from zero k s = refl
counts-served_from (suc n) k s = let t : State = lane_served s k Ab in counts-served_from n (k + 1) (lane_served t k Ba) ∙ (served t k Ba ∙ served s k Ab)

counts-one_round : (s : State) → counts (one_round s) ≡ counts s
unfolding one_round
counts-one_round s = let t : State = ticked_from (length s.views) 0 s in counts-served_from (length t.lanes) 0 t ∙ counts-ticked_from (length s.views) 0 s

pub counts-rounds : (n : ℕ) (s : State) → counts (rounds n s) ≡ counts s
counts-rounds zero s = refl
counts-rounds (suc n) s = counts-rounds n (one_round s) ∙ counts-one_round s

delivered_at : (s : State) (o : Option LaneId) → counts (delivered_over s o) ≡ counts s
delivered_at s None = refl
delivered_at s (Some lane) = counts-delivered s lane.link lane.dir

first : (s : State) → counts (delivered_first s) ≡ counts s
unfolding delivered_first
first s = delivered_at s (first_full_from 0 s.lanes)

pub counts-drained : (n : ℕ) (s : State) → counts (drained n s) ≡ counts s
counts-drained zero s = refl
counts-drained (suc n) s = counts-drained n (delivered_first s) ∙ first s

-- ---- declarations

pub counts-boxed : (s : State) (name : List ℕ) (b : DeclaredBridge) (o : Option ℕ) → counts (boxed s name b o) ≡ counts s
counts-boxed s name b None = refl
counts-boxed s name b (Some place) = refl

pub counts-linked : (s : State) (name : List ℕ) (l : DeclaredLink) → counts (linked s name l) ≡ counts s
unfolding linked
counts-linked s name l =
    let t : State = record s { world = with_link s.world name l; lanes = s.lanes ++ no_frames ∷ [] } in
    counts-on (with_metrics_over t l) (length s.lanes) ∙ (metric_at (with_metric_at_end t l.a) l.b ∙ metric_at t l.a)
