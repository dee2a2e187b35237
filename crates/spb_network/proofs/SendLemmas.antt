-- Frames on their way.
use Rattle.std.proofs.Common.{zero, suc, slice_get, ◌≡◌, ℕ, Bool, true, false, List, [], ◌∷◌, ◌++◌, Option, Some, None, if◌then◌else◌, refl, sym, ap, ◌∙◌}
use Rattle.link_model.specs.Lane.{Frame, pushed}
use Rattle.std.specs.Option.{option_map_or}
use Rattle.spb_types.specs.declared.link.Dir.{Dir}
use Rattle.spb_types.specs.declared.link.Dir.TheVariants.{Ab, Ba}
use Rattle.bridge_api.specs.View.{BridgeView}
use Rattle.bridge_api.specs.Step.{Input, step, sent, left_by}
use Rattle.link_model.specs.declared.lanes.LinkLanes.{LinkLanes}
use Rattle.link_model.specs.declared.lanes.LaneId.{LaneId}
use Rattle.link_model.specs.Lanes.{lane_in, changed_lane, rest}
use Rattle.spb_types.specs.Places.{changed_at}
use Rattle.network_model.specs.State.{State, links_of, with_frames}
use Rattle.spb_world.specs.Links.{is_live, live_lane}
use Rattle.network_model.specs.declared.answer.Out.{Out}
use Rattle.spb_world.specs.World.{names_of}
use Rattle.network_model.specs.Events.{sent_over, sent_all, outs_at, left_all, stepped}
use Rattle.spb_world.proofs.BoxLemmas.{append-none}

same-lane : (s : State) (v w : LaneId) (f : Frame) (b : Bool) → (if b then Some v else None) ≡ Some w → (if b then with_frames (λ frames. pushed frames f) s v.link v.dir else s) ≡ with_frames (λ frames. pushed frames f) s w.link w.dir
same-lane s v w f true e = ap (λ x. with_frames (λ frames. pushed frames f) s x.link x.dir) (some-is v w e)
  where
    some-is : (v w : LaneId) → Some v ≡ Some w → v ≡ w
    some-is v w h = cc
same-lane s v w f false e = cc

-- a frame goes over the way that is live
pub sent-live : (s : State) (o : Option LaneId) (w : LaneId) (f : Frame) → live_lane (links_of s) o ≡ Some w → sent_over s o f ≡ with_frames (λ frames. pushed frames f) s w.link w.dir
sent-live s None w f e = cc
sent-live s (Some v) w f e = same-lane s v w f (is_live (links_of s) v.link) e

-- nothing is sent
abbrev pub no_sent : List (ℕ × Frame)
no_sent = []

-- what comes to a bridge, once its box shows what became of it and told what it sends and what leaves
pub stepped-moved : (input : Input) (s : State) (i : ℕ) (views : List BridgeView) (frames lefts : List (ℕ × Frame)) → views ≡ changed_at (step input) s.views i → frames ≡ option_map_or (sent input) (slice_get s.views i) [] → lefts ≡ option_map_or (left_by input) (slice_get s.views i) [] → left_all (sent_all (record s { views = views }) i frames) i lefts ≡ stepped input s i
unfolding stepped
stepped-moved input s i views frames lefts e f l = λ j. left_all (sent_all (record s { views = e j }) i (f j)) i (l j)

-- nothing leaves a bridge, whatever its name
outs-none : (o : Option (List ℕ)) → outs_at o [] ≡ []
outs-none None = refl
outs-none (Some name) = refl

pub left_all-none : (s : State) (i : ℕ) → left_all s i [] ≡ s
left_all-none s i = ap (λ (outs : List Out). record s { outs = outs }) (ap (λ (outs : List Out). s.outs ++ outs) (outs-none (slice_get (names_of s.world.bridges) i)) ∙ append-none s.outs)

-- frames leave a bridge that has a name, and none past the last
pub left_all-named : (s : State) (i : ℕ) (name : List ℕ) (frames : List (ℕ × Frame)) → slice_get (names_of s.world.bridges) i ≡ Some name → left_all s i frames ≡ record s { outs = s.outs ++ outs_at (Some name) frames }
left_all-named s i name frames at = ap (λ (o : Option (List ℕ)). record s { outs = s.outs ++ outs_at o frames }) at

pub left_all-unnamed : (s : State) (i : ℕ) (frames : List (ℕ × Frame)) → slice_get (names_of s.world.bridges) i ≡ None → left_all s i frames ≡ s
left_all-unnamed s i frames at = ap (λ (o : Option (List ℕ)). record s { outs = s.outs ++ outs_at o frames }) at ∙ ap (λ (outs : List Out). record s { outs = outs }) (append-none s.outs)

-- and so where it sends nothing, and nothing leaves
pub stepped-silent : (input : Input) (s : State) (i : ℕ) (views : List BridgeView) (frames lefts : List (ℕ × Frame)) → views ≡ changed_at (step input) s.views i → frames ≡ option_map_or (sent input) (slice_get s.views i) [] → lefts ≡ option_map_or (left_by input) (slice_get s.views i) [] → frames ≡ [] → lefts ≡ [] → record s { views = views } ≡ stepped input s i
stepped-silent input s i views frames lefts e f l none nobody = sym (left_all-none (record s { views = views }) i) ∙ stepped-moved input s i views [] [] e (sym none ∙ f) (sym nobody ∙ l)

-- and so where nothing leaves
pub stepped-is : (input : Input) (s : State) (i : ℕ) (views : List BridgeView) (frames : List (ℕ × Frame)) → views ≡ changed_at (step input) s.views i → frames ≡ option_map_or (sent input) (slice_get s.views i) [] → no_sent ≡ option_map_or (left_by input) (slice_get s.views i) [] → sent_all (record s { views = views }) i frames ≡ stepped input s i
stepped-is input s i views frames e f l = sym (left_all-none (sent_all (record s { views = views }) i frames) i) ∙ stepped-moved input s i views frames no_sent e f l

no-frames : {V : Type 0} (o : Option V) → no_sent ≡ option_map_or (λ v. []) o []
no-frames None = refl
no-frames (Some v) = refl

pub frames-none : {V : Type 0} (vs : List V) (i : ℕ) → no_sent ≡ option_map_or (λ v. []) (slice_get vs i) []
frames-none vs i = no-frames (slice_get vs i)

none-changed : (dir : Dir) (l : LinkLanes) → slice_get (lane_in dir l) 0 ≡ None → l ≡ changed_lane dir rest l
none-changed Ab l h = λ j. record l { ab = same-rest l.ab h j }
  where
    same-rest : (fs : List Frame) → slice_get fs 0 ≡ None → fs ≡ rest fs
    same-rest [] h = refl
    same-rest (f ∷ fs) h = cc
none-changed Ba l h = λ j. record l { ba = same-rest l.ba h j }
  where
    same-rest : (fs : List Frame) → slice_get fs 0 ≡ None → fs ≡ rest fs
    same-rest [] h = refl
    same-rest (f ∷ fs) h = cc

-- nothing is taken from an empty lane
pub rest-none : (dir : Dir) (ls : List LinkLanes) (k : ℕ) → slice_get (option_map_or (lane_in dir) (slice_get ls k) []) 0 ≡ None → ls ≡ changed_at (changed_lane dir rest) ls k
rest-none dir [] k h = refl
rest-none dir (l ∷ ls) zero h = ap (λ x. x ∷ ls) (none-changed dir l h)
rest-none dir (l ∷ ls) (suc k) h = ap (λ x. l ∷ x) (rest-none dir ls k h)
