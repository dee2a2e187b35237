-- What holds of each frame on its way.
use Rattle.std.proofs.Common.{◌≡◌, inl, inr, ℕ, Bool, true, false, List, [], ◌∷◌, ◌++◌, refl, sym, subst, Option, Some, None, slice_get}
use Rattle.std.specs.Prelude.{if◌then◌else◌}
use Rattle.std.specs.List.{AllByRecursion}
use Rattle.std.specs.Option.{option_map_or}
use Rattle.link_model.specs.Lane.{Frame, has_room, pushed}
use Rattle.link_model.specs.Lanes.{changed_lane, lane_of}
use Rattle.link_model.specs.declared.lanes.LaneId.{LaneId}
use Rattle.link_model.specs.declared.lanes.LinkLanes.{LinkLanes}
use Rattle.spb_types.specs.Places.{changed_at}
use Rattle.spb_types.specs.declared.link.Dir.{Dir}
use Rattle.bridge_api.specs.View.{BridgeView}
use Rattle.bridge_api.specs.Step.{Input, step, sent}
use Rattle.network_model.specs.State.{State, links_of, with_frames}
use Rattle.spb_world.specs.Links.{is_live, lane_out}
use Rattle.network_model.specs.Events.{sent_over, sent_all, stepped}
use Rattle.spb_world.proofs.ListLemmas.{All-push}
use Rattle.network_model.proofs.SoundSteps.{lane_changed}

-- it holds of each frame in each lane
abbrev pub HoldsOnTheWay : (Frame → Type 0) → List LinkLanes → Type 0
HoldsOnTheWay P lanes = (k : ℕ) (dir : Dir) → AllByRecursion P (lane_of lanes k dir)

lane_each : (P : Frame → Type 0) (g : List Frame → List Frame) (lanes : List LinkLanes) (j : ℕ) (d : Dir) → ((frames : List Frame) → AllByRecursion P frames → AllByRecursion P (g frames)) → HoldsOnTheWay P lanes → HoldsOnTheWay P (changed_at (changed_lane d g) lanes j)
lane_each P g lanes j d keeps all k dir =
    elim (lane_changed g lanes j d k dir) [
      | inl here ↦ subst (AllByRecursion P) (sym here.2) (keeps (lane_of lanes k dir) (all k dir))
      | inr same ↦ subst (AllByRecursion P) (sym same) (all k dir)
    ]

pushed_each : (P : Frame → Type 0) (b : Bool) (x : Frame) (frames : List Frame) → P x → AllByRecursion P frames → AllByRecursion P (if b then frames ++ x ∷ [] else frames)
pushed_each P true x frames new all = All-push P frames x all new
pushed_each P false x frames new all = all

over_each : (P : Frame → Type 0) (s : State) (lane : Option LaneId) (x : Frame) → P x → HoldsOnTheWay P s.lanes → HoldsOnTheWay P (sent_over s lane x).lanes
over_each P s None x new all = all
over_each P s (Some lane) x new all = by (is_live (links_of s) lane.link)
  where
    by : (live : Bool) → HoldsOnTheWay P (if live then with_frames (λ frames. pushed frames x) s lane.link lane.dir else s).lanes
    by true = lane_each P (λ frames. pushed frames x) s.lanes lane.link lane.dir (λ frames each. pushed_each P (has_room frames) x frames new each) all
    by false = all

sent_each : (P : Frame → Type 0) (s : State) (i : ℕ) (fs : List (ℕ × Frame)) → AllByRecursion (λ f. P f.1) fs → HoldsOnTheWay P s.lanes → HoldsOnTheWay P (sent_all s i fs).lanes
sent_each P s i [] new all = all
sent_each P s i (f ∷ fs) new all =
    let lane : Option LaneId = lane_out (links_of s) i f.0 in
    sent_each P (sent_over s lane f.1) i fs new.1 (over_each P s lane f.1 new.0 all)

-- what holds of each item that a bridge gives, if there is one
pub found_each : {V X : Type 0} (P : X → Type 0) (f : V → List X) (o : Option V) → ((v : V) → o ≡ Some v → AllByRecursion P (f v)) → AllByRecursion P (option_map_or f o [])
found_each P f None each = tt
found_each P f (Some v) each = each v refl

-- and so it is when something came to a bridge, where it holds of what this sends
pub stepped_each : (P : Frame → Type 0) (x : Input) (s : State) (i : ℕ) → HoldsOnTheWay P s.lanes → ((v : BridgeView) → slice_get s.views i ≡ Some v → AllByRecursion (λ f. P f.1) (sent x v)) → HoldsOnTheWay P (stepped x s i).lanes
unfolding stepped
stepped_each P x s i all sends =
    sent_each P (record s { views = changed_at (step x) s.views i }) i (option_map_or (sent x) (slice_get s.views i) []) (found_each (λ f. P f.1) (sent x) (slice_get s.views i) sends) all
