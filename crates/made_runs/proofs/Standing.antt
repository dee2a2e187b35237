-- What becomes of what refusals read, whatever bridges hold and whatever is on its way.
use Rattle.std.proofs.Common.{◌≡◌, ℕ, zero, suc, ◌+◌, Bool, true, false, if◌then◌else◌, List, [], ◌∷◌, length, Option, Some, None, slice_get, refl, ap, ◌∙◌}
use Rattle.std.specs.Prelude.{remove}
use Rattle.std.specs.Option.{option_map_or}
use Rattle.bridge_api.specs.declared.config.BridgeConfig.{BridgeConfig}
use Rattle.bridge_api.specs.Step as comes
use Rattle.bridge_api.specs.Step.{Input, step, sent}
use Rattle.spb_types.specs.Places.{changed_at}
use Rattle.spb_types.specs.declared.link.Dir.{Dir}
use Rattle.spb_types.specs.declared.link.Dir.TheVariants.{Ab, Ba}
use Rattle.link_model.specs.Lane.{Frame, pushed}
use Rattle.link_model.specs.Lanes.{rest, first_full_from}
use Rattle.link_model.specs.declared.lanes.LaneId.{LaneId}
use Rattle.spb_world.specs.declared.declaration.DeclaredLink.{DeclaredLink}
use Rattle.spb_world.specs.declared.declaration.LinkEnd.{LinkEnd}
use Rattle.network_model.specs.State.{State, links_of, lane_at, with_frames}
use Rattle.spb_world.specs.Links.{is_live, far_end, lane_out, ends_here, end_here, end_away}
use Rattle.network_model.specs.Events.{sent_over, sent_all, stepped, ticked, heard_over, delivered_front, delivered, with_carrier_at_end, with_carrier_over, with_metrics_over, flushed, ticked_from, delivered_times, lane_served, link_served, served_from, all_ticked, one_round, rounds, delivered_over, delivered_first, drained}
use Rattle.network_model.specs.Restarting.{link_cut, cut_link, cut_from, with_link_carrier, with_carriers_from, replaced, restarted_in}

-- a network without its bridges and lanes
abbrev pub bare : State → State
bare s = record s { views = []; lanes = []; outs = []; accepted = 0; ticks = [] }

bare-sent_over : (s : State) (lane : Option LaneId) (x : Frame) → bare (sent_over s lane x) ≡ bare s
bare-sent_over s None x = refl
bare-sent_over s (Some lane) x = by (is_live (links_of s) lane.link)
  where
    by : (live : Bool) → bare (if live then with_frames (λ frames. pushed frames x) s lane.link lane.dir else s) ≡ bare s
    by true = refl
    by false = refl

bare-sent_all : (s : State) (i : ℕ) (fs : List (ℕ × Frame)) → bare (sent_all s i fs) ≡ bare s
bare-sent_all s i [] = refl
bare-sent_all s i (x ∷ fs) = bare-sent_all (sent_over s (lane_out (links_of s) i x.0) x.1) i fs ∙ bare-sent_over s (lane_out (links_of s) i x.0) x.1

pub bare-stepped : (x : Input) (s : State) (i : ℕ) → bare (stepped x s i) ≡ bare s
unfolding stepped
bare-stepped x s i = bare-sent_all (record s { views = changed_at (step x) s.views i }) i (option_map_or (sent x) (slice_get s.views i) [])

-- ---- deliveries

bare-heard_over : (s : State) (dir : Dir) (bytes : Frame) (o : Option DeclaredLink) → bare (heard_over s dir bytes o) ≡ bare s
bare-heard_over s dir bytes None = refl
bare-heard_over s dir bytes (Some l) = bare-stepped (comes.frame (far_end dir l).port bytes) s (far_end dir l).bridge

bare-front : (s : State) (k : ℕ) (dir : Dir) (o : Option Frame) → bare (delivered_front s k dir o) ≡ bare s
bare-front s k dir None = refl
bare-front s k dir (Some bytes) = bare-heard_over (with_frames rest s k dir) dir bytes (slice_get (links_of s) k)

pub bare-delivered : (s : State) (k : ℕ) (dir : Dir) → bare (delivered s k dir) ≡ bare s
unfolding delivered
bare-delivered s k dir = bare-front s k dir (slice_get (lane_at s k dir) 0)

bare-over : (s : State) (o : Option LaneId) → bare (delivered_over s o) ≡ bare s
bare-over s None = refl
bare-over s (Some lane) = bare-delivered s lane.link lane.dir

bare-first : (s : State) → bare (delivered_first s) ≡ bare s
unfolding delivered_first
bare-first s = bare-over s (first_full_from 0 s.lanes)

pub bare-drained : (n : ℕ) (s : State) → bare (drained n s) ≡ bare s
bare-drained zero s = refl
bare-drained (suc n) s = bare-drained n (delivered_first s) ∙ bare-first s

-- ---- rounds

bare-ticked_from : (n i : ℕ) (s : State) → bare (ticked_from n i s) ≡ bare s
bare-ticked_from zero i s = refl
bare-ticked_from (suc n) i s = bare-ticked_from n (i + 1) (ticked s i) ∙ bare-stepped comes.second s i

bare-times : (n k : ℕ) (dir : Dir) (s : State) → bare (delivered_times n k dir s) ≡ bare s
bare-times zero k dir s = refl
bare-times (suc n) k dir s = bare-times n k dir (delivered s k dir) ∙ bare-delivered s k dir

bare-lane : (s : State) (k : ℕ) (dir : Dir) → bare (lane_served s k dir) ≡ bare s
unfolding lane_served
bare-lane s k dir = bare-times (length (lane_at s k dir)) k dir s

bare-served_from : (n k : ℕ) (s : State) → bare (served_from n k s) ≡ bare s
bare-served_from zero k s = refl
bare-served_from (suc n) k s = bare-served_from n (k + 1) (link_served s k) ∙ bare-lane (lane_served s k Ab) k Ba ∙ bare-lane s k Ab

bare-round : (s : State) → bare (one_round s) ≡ bare s
unfolding one_round
bare-round s = bare-served_from (length (all_ticked s).lanes) 0 (all_ticked s) ∙ bare-ticked_from (length s.views) 0 s

pub bare-rounds : (n : ℕ) (s : State) → bare (rounds n s) ≡ bare s
bare-rounds zero s = refl
bare-rounds (suc n) s = bare-rounds n (one_round s) ∙ bare-round s

-- ---- links

pub bare-carrier_over : (on : Bool) (s : State) (o : Option DeclaredLink) → bare (with_carrier_over on s o) ≡ bare s
bare-carrier_over on s None = refl
bare-carrier_over on s (Some l) = bare-stepped (comes.carrier l.b.port on) (with_carrier_at_end on s l.a) l.b.bridge ∙ bare-stepped (comes.carrier l.a.port on) s l.a.bridge

pub bare-metrics_over : (s : State) (l : DeclaredLink) → bare (with_metrics_over s l) ≡ bare s
bare-metrics_over s l = bare-stepped (comes.metric l.b.port l.b.metric) (stepped (comes.metric l.a.port l.a.metric) s l.a.bridge) l.b.bridge ∙ bare-stepped (comes.metric l.a.port l.a.metric) s l.a.bridge

-- ---- a restart

bare-cut : (s : State) (k : ℕ) (e : LinkEnd) (b : Bool) → bare (if b then link_cut s k e else s) ≡ bare s
bare-cut s k e true = bare-stepped (comes.carrier e.port true) (with_carrier_at_end false (flushed s k) e) e.bridge ∙ bare-stepped (comes.carrier e.port false) (flushed s k) e.bridge
bare-cut s k e false = refl

bare-cut_link : (s : State) (i k : ℕ) (o : Option DeclaredLink) → bare (cut_link s i k o) ≡ bare s
bare-cut_link s i k None = refl
bare-cut_link s i k (Some l) = bare-cut s k (end_away l i) (ends_here l i)

bare-cut_from : (n k i : ℕ) (s : State) → bare (cut_from n k i s) ≡ bare s
bare-cut_from zero k i s = refl
bare-cut_from (suc n) k i s = bare-cut_from n (k + 1) i (cut_link s i k (slice_get (links_of s) k)) ∙ bare-cut_link s i k (slice_get (links_of s) k)

bare-carrier_if : (s : State) (e : LinkEnd) (b : Bool) → bare (if b then with_carrier_at_end true s e else s) ≡ bare s
bare-carrier_if s e true = bare-stepped (comes.carrier e.port true) s e.bridge
bare-carrier_if s e false = refl

bare-with_link_carrier : (s : State) (i : ℕ) (o : Option DeclaredLink) → bare (with_link_carrier s i o) ≡ bare s
bare-with_link_carrier s i None = refl
bare-with_link_carrier s i (Some l) = bare-carrier_if s (end_here l i) (ends_here l i)

bare-with_carriers_from : (n k i : ℕ) (s : State) → bare (with_carriers_from n k i s) ≡ bare s
bare-with_carriers_from zero k i s = refl
bare-with_carriers_from (suc n) k i s = bare-with_carriers_from n (k + 1) i (with_link_carrier s i (slice_get (links_of s) k)) ∙ bare-with_link_carrier s i (slice_get (links_of s) k)

pub bare-restarted_in : (s : State) (i : ℕ) (c : BridgeConfig) (place : ℕ) → bare (restarted_in s i c place) ≡ record (bare s) { rack = remove s.rack place }
bare-restarted_in s i c place =
    let n : ℕ = length (links_of s) in
    let cut : bare (cut_from n 0 i s) ≡ bare s = bare-cut_from n 0 i s in
    bare-with_carriers_from n 0 i (replaced (cut_from n 0 i s) i c place) ∙ ap (λ (t : State). record t { rack = remove t.rack place }) cut
