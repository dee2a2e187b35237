-- What a step of one bridge leaves: the bridges, each lane, and the rest.
use Rattle.std.proofs.Common.{◌≡◌, ◌≢◌, inl, inr, ◌<◌, ◌==◌, ◌&&◌, ℕ, zero, suc, Bool, true, false, true≢false, List, [], ◌∷◌, ◌++◌, length, refl, sym, ap, ◌∙◌, subst, Option, Some, None, slice_get, if◌then◌else◌, arith}
use Rattle.std.specs.Option.{option_map, option_map_or}
use Rattle.std.proofs.lemmas.Bool.{eqb-true, eq-eqb}
use Rattle.link_model.specs.Lane.{Frame, pushed}
use Rattle.spb_types.specs.declared.link.Dir.{Dir}
use Rattle.spb_types.specs.declared.link.Dir.TheVariants.{Ab, Ba}
use Rattle.bridge_api.specs.View.{BridgeView}
use Rattle.bridge_api.specs.Step.{Input, step, sent, left_by, frames_at}
use Rattle.spb_world.specs.declared.declaration.DeclaredLink.{DeclaredLink}
use Rattle.link_model.specs.declared.lanes.LinkLanes.{LinkLanes}
use Rattle.link_model.specs.declared.lanes.LaneId.{LaneId}
use Rattle.network_model.specs.declared.answer.Out.{Out}
use Rattle.spb_world.specs.World.{World, names_of, things_of, AllApart}
use Rattle.link_model.specs.Lanes.{changed_lane, lane_of}
use Rattle.spb_types.specs.Places.{changed_at}
use Rattle.network_model.specs.State.{State, links_of, with_frames}
use Rattle.spb_world.specs.Links.{is_live, near_end, lane_out}
use Rattle.network_model.specs.Events.{sent_over, sent_all, outs_at, left_all, stepped}
use Rattle.network_model.specs.DeliveryLaws.{pushed_all, IsOneStep}
use Rattle.network_model.proofs.FitsLemmas.{alike_sent_over}
use Rattle.network_model.proofs.SoundLane.{some-is}
use Rattle.spb_world.proofs.SoundLaneIds.{lane_of_end, LeadsFrom, lane_leads}
use Rattle.network_model.proofs.SoundSteps.{lane_changed, world-sent_over}
use Rattle.network_model.proofs.SoundEvents.{stepped_views}

-- ---- one lane

-- the frames of a lane that is there are changed
pub lane_here : (g : List Frame → List Frame) (lanes : List LinkLanes) (k : ℕ) (dir : Dir) → k < length lanes → lane_of (changed_at (changed_lane dir g) lanes k) k dir ≡ g (lane_of lanes k dir)
lane_here g [] k dir within = absurd (omega arith)
lane_here g (x ∷ lanes) zero Ab within = refl
lane_here g (x ∷ lanes) zero Ba within = refl
lane_here g (x ∷ lanes) (suc k) dir within = lane_here g lanes k dir (omega arith)

-- and those of no other
pub lane_beside : (g : List Frame → List Frame) (lanes : List LinkLanes) (j : ℕ) (d : Dir) (k : ℕ) (dir : Dir) → ((j ≡ k) × (d ≡ dir) → ⊥) → lane_of (changed_at (changed_lane d g) lanes j) k dir ≡ lane_of lanes k dir
lane_beside g lanes j d k dir apart =
    elim (lane_changed g lanes j d k dir) [
      | inl here ↦ absurd (apart (here.0, here.1))
      | inr same ↦ same
    ]

-- ---- a frame is sent

live_of : (links : List DeclaredLink) (k : ℕ) (l : DeclaredLink) → slice_get links k ≡ Some l → is_live links k ≡ l.live
live_of links k l at = ap (λ (o : Option DeclaredLink). option_map_or (λ l. l.live) o false) at

-- into the lane of a way
over_here : (live : Bool) (s : State) (k : ℕ) (dir : Dir) (x : Frame) → k < length s.lanes → is_live (links_of s) k ≡ live
    → lane_of (sent_over s (Some (record { link = k; dir = dir })) x).lanes k dir ≡ (if live then pushed (lane_of s.lanes k dir) x else lane_of s.lanes k dir)
over_here true s k dir x within live = ap (λ (b : Bool). lane_of (if b then with_frames (λ frames. pushed frames x) s k dir else s).lanes k dir) live ∙ lane_here (λ frames. pushed frames x) s.lanes k dir within
over_here false s k dir x within live = ap (λ (b : Bool). lane_of (if b then with_frames (λ frames. pushed frames x) s k dir else s).lanes k dir) live

-- and into no other
over_beside : (s : State) (o : Option LaneId) (x : Frame) (k : ℕ) (dir : Dir) → ((lane : LaneId) → o ≡ Some lane → (lane.link ≡ k) × (lane.dir ≡ dir) → ⊥) → lane_of (sent_over s o x).lanes k dir ≡ lane_of s.lanes k dir
over_beside s None x k dir apart = refl
over_beside s (Some lane) x k dir apart = by (is_live (links_of s) lane.link)
  where
    by : (live : Bool) → lane_of (if live then with_frames (λ frames. pushed frames x) s lane.link lane.dir else s).lanes k dir ≡ lane_of s.lanes k dir
    by true = lane_beside (λ frames. pushed frames x) s.lanes lane.link lane.dir k dir (apart lane refl)
    by false = refl

module _ (links : List DeclaredLink) (i k : ℕ) (dir : Dir) (l : DeclaredLink) (there : slice_get links k ≡ Some l) where
  -- a way into this lane leads from this end
  leads_here : (q : ℕ) (lane : LaneId) → lane_out links i q ≡ Some lane → (lane.link ≡ k) × (lane.dir ≡ dir) → ((near_end dir l).bridge ≡ i) × ((near_end dir l).port ≡ q)
  leads_here q lane out same =
      let leads : LeadsFrom links i q lane.link lane.dir = lane_leads links i q lane out in
      let link : leads.link ≡ l = some-is leads.link l (sym leads.there ∙ (ap (slice_get links) same.0 ∙ there)) in
      (sym (λ j. (near_end (same.1 j) (link j)).bridge) ∙ leads.bridge, sym (λ j. (near_end (same.1 j) (link j)).port) ∙ leads.port)

  -- ---- the frames that a bridge sends, in a lane of another bridge

  pub sent_beside : (s : State) (fs : List (ℕ × Frame)) → links_of s ≡ links → (near_end dir l).bridge ≢ i → lane_of (sent_all s i fs).lanes k dir ≡ lane_of s.lanes k dir
  sent_beside s [] same apart = refl
  sent_beside s (x ∷ fs) same apart =
      let lane : Option LaneId = lane_out (links_of s) i x.0 in
      sent_beside (sent_over s lane x.1) fs (ap (λ (w : World). things_of w.links) (world-sent_over s lane x.1) ∙ same) apart
      ∙ over_beside s lane x.1 k dir (λ w out is. apart (leads_here x.0 w (ap (λ (ls : List DeclaredLink). lane_out ls i x.0) (sym same) ∙ out) is).0)

  -- ---- and in a lane that leads from it

  module _ (all_apart : AllApart links) (ends : l.a.bridge ≢ l.b.bridge) (near : (near_end dir l).bridge ≡ i) where
    out_here : (q : ℕ) → (near_end dir l).port ≡ q → lane_out links i q ≡ Some (record { link = k; dir = dir })
    out_here q port = sym (λ j. lane_out links (near j) (port j)) ∙ lane_of_end links k l dir all_apart ends there

    one_sent : (s : State) (x : ℕ × Frame) (b : Bool) → links_of s ≡ links → k < length s.lanes → (x.0 == (near_end dir l).port) ≡ b
        → lane_of (sent_over s (lane_out (links_of s) i x.0) x.1).lanes k dir ≡ (if b && l.live then pushed (lane_of s.lanes k dir) x.1 else lane_of s.lanes k dir)
    one_sent s x true same within at =
        let out : lane_out (links_of s) i x.0 ≡ Some (record { link = k; dir = dir }) = ap (λ (ls : List DeclaredLink). lane_out ls i x.0) same ∙ out_here x.0 (sym (eqb-true x.0 (near_end dir l).port at)) in
        ap (λ (o : Option LaneId). lane_of (sent_over s o x.1).lanes k dir) out
        ∙ over_here l.live s k dir x.1 within (ap (λ (ls : List DeclaredLink). is_live ls k) same ∙ live_of links k l there)
    one_sent s x false same within at =
        over_beside s (lane_out (links_of s) i x.0) x.1 k dir (λ w out is.
        true≢false (sym (eq-eqb x.0 (near_end dir l).port (sym (leads_here x.0 w (ap (λ (ls : List DeclaredLink). lane_out ls i x.0) (sym same) ∙ out) is).1)) ∙ at))

    nothing_sent : (live : Bool) (lane : List Frame) → lane ≡ pushed_all lane (if live then [] else [])
    nothing_sent true lane = refl
    nothing_sent false lane = refl

    in_order : (live b : Bool) (lane : List Frame) (x : Frame) (more : List Frame) → pushed_all (if b && live then pushed lane x else lane) (if live then more else []) ≡ pushed_all lane (if live then (if b then x ∷ more else more) else [])
    in_order true true lane x more = refl
    in_order true false lane x more = refl
    in_order false true lane x more = refl
    in_order false false lane x more = refl

    pub sent_here : (s : State) (fs : List (ℕ × Frame)) → links_of s ≡ links → k < length s.lanes
        → lane_of (sent_all s i fs).lanes k dir ≡ pushed_all (lane_of s.lanes k dir) (if l.live then frames_at (near_end dir l).port fs else [])
    sent_here s [] same within = nothing_sent l.live (lane_of s.lanes k dir)
    sent_here s (x ∷ fs) same within =
        let lane : Option LaneId = lane_out (links_of s) i x.0 in
        let next : State = sent_over s lane x.1 in
        let more : List Frame = frames_at (near_end dir l).port fs in
        sent_here next fs (ap (λ (w : World). things_of w.links) (world-sent_over s lane x.1) ∙ same) (subst (λ (n : ℕ). k < n) (sym (alike_sent_over s lane x.1).lanes) within)
        ∙ (ap (λ (lane : List Frame). pushed_all lane (if l.live then more else [])) (one_sent s x (x.0 == (near_end dir l).port) same within refl)
        ∙ in_order l.live (x.0 == (near_end dir l).port) (lane_of s.lanes k dir) x.1 more)

-- ---- nothing else is changed

over_rest : (s : State) (o : Option LaneId) (x : Frame) → sent_over s o x ≡ record s { lanes = (sent_over s o x).lanes }
over_rest s None x = refl
over_rest s (Some lane) x = by (is_live (links_of s) lane.link)
  where
    by : (live : Bool) → (if live then with_frames (λ frames. pushed frames x) s lane.link lane.dir else s) ≡ record s { lanes = (if live then with_frames (λ frames. pushed frames x) s lane.link lane.dir else s).lanes }
    by true = refl
    by false = refl

sent_rest : (s : State) (i : ℕ) (fs : List (ℕ × Frame)) → sent_all s i fs ≡ record s { lanes = (sent_all s i fs).lanes }
sent_rest s i [] = refl
sent_rest s i (x ∷ fs) =
    let next : State = sent_over s (lane_out (links_of s) i x.0) x.1 in
    sent_rest next i fs ∙ ap (λ (t : State). record t { lanes = (sent_all next i fs).lanes }) (over_rest s (lane_out (links_of s) i x.0) x.1)

-- ---- one bridge steps

changed_here : {X : Type 0} (f : X → X) (xs : List X) (i : ℕ) → slice_get (changed_at f xs i) i ≡ option_map f (slice_get xs i)
changed_here f [] i = refl
changed_here f (x ∷ xs) zero = refl
changed_here f (x ∷ xs) (suc i) = changed_here f xs i

pub changed_beside : {X : Type 0} (f : X → X) (xs : List X) (i j : ℕ) → j ≢ i → slice_get (changed_at f xs i) j ≡ slice_get xs j
changed_beside f [] i j apart = refl
changed_beside f (x ∷ xs) zero zero apart = absurd (apart refl)
changed_beside f (x ∷ xs) zero (suc j) apart = refl
changed_beside f (x ∷ xs) (suc i) zero apart = refl
changed_beside f (x ∷ xs) (suc i) (suc j) apart = changed_beside f xs i j (λ e. apart (ap suc e))

pub stepped_once : (x : Input) (s : State) (i : ℕ) (v : BridgeView) → slice_get s.views i ≡ Some v → IsOneStep s (stepped x s i) i x v
stepped_once x s i v at = record {
  before = at;
  after = ap (λ (views : List BridgeView). slice_get views i) (stepped_views x s i) ∙ (changed_here (step x) s.views i ∙ ap (option_map (step x)) at);
  others = λ j apart. ap (λ (views : List BridgeView). slice_get views j) (stepped_views x s i) ∙ changed_beside (step x) s.views i j apart;
}

pub stepped_here : (x : Input) (s : State) (i : ℕ) (v : BridgeView) (k : ℕ) (dir : Dir) (l : DeclaredLink) → slice_get s.views i ≡ Some v → slice_get (links_of s) k ≡ Some l → AllApart (links_of s) → l.a.bridge ≢ l.b.bridge → (near_end dir l).bridge ≡ i → k < length s.lanes
    → lane_of (stepped x s i).lanes k dir ≡ pushed_all (lane_of s.lanes k dir) (if l.live then frames_at (near_end dir l).port (sent x v) else [])
unfolding stepped
stepped_here x s i v k dir l at there all_apart ends near within =
    let next : State = record s { views = changed_at (step x) s.views i } in
    ap (λ (o : Option BridgeView). lane_of (sent_all next i (option_map_or (sent x) o [])).lanes k dir) at
    ∙ sent_here (links_of s) i k dir l there all_apart ends near next (sent x v) refl within

pub stepped_beside : (x : Input) (s : State) (i k : ℕ) (dir : Dir) (l : DeclaredLink) → slice_get (links_of s) k ≡ Some l → (near_end dir l).bridge ≢ i → lane_of (stepped x s i).lanes k dir ≡ lane_of s.lanes k dir
unfolding stepped
stepped_beside x s i k dir l there apart =
    sent_beside (links_of s) i k dir l there (record s { views = changed_at (step x) s.views i }) (option_map_or (sent x) (slice_get s.views i) []) refl apart

pub stepped_rest : (x : Input) (s : State) (i : ℕ) → stepped x s i ≡ record s { views = (stepped x s i).views; lanes = (stepped x s i).lanes; outs = (stepped x s i).outs }
unfolding stepped
stepped_rest x s i =
    let next : State = record s { views = changed_at (step x) s.views i } in
    let fs : List (ℕ × Frame) = option_map_or (sent x) (slice_get s.views i) [] in
    let t : State = sent_all next i fs in
    let outs : List Out = (left_all t i (option_map_or (left_by x) (slice_get s.views i) [])).outs in
    ap (λ (u : State). record u { outs = outs }) (sent_rest next i fs)
    ∙ ap (λ (views : List BridgeView). record s { views = views; lanes = t.lanes; outs = outs }) (sym (ap (λ (u : State). u.views) (sent_rest next i fs)))

-- what left is behind what left before
pub stepped_outs : (x : Input) (s : State) (i : ℕ) (v : BridgeView) → slice_get s.views i ≡ Some v → (stepped x s i).outs ≡ s.outs ++ outs_at (slice_get (names_of s.world.bridges) i) (left_by x v)
unfolding stepped
stepped_outs x s i v at =
    let next : State = record s { views = changed_at (step x) s.views i } in
    let fs : List (ℕ × Frame) = option_map_or (sent x) (slice_get s.views i) [] in
    ap (λ (t : State). t.outs ++ outs_at (slice_get (names_of t.world.bridges) i) (option_map_or (left_by x) (slice_get s.views i) [])) (sent_rest next i fs)
    ∙ ap (λ (o : Option BridgeView). s.outs ++ outs_at (slice_get (names_of s.world.bridges) i) (option_map_or (left_by x) o [])) at
