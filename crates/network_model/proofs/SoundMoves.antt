-- A move of the whole network: something may come to each bridge, and frames may be lost or doubled.
use Rattle.std.proofs.Common.{◌≡◌, ◌≢◌, ◌⊎◌, inl, inr, ◌<◌, ◌≤◌, ℕ, zero, suc, true, true≢false, List, [], ◌∷◌, length, refl, sym, ap, ◌∙◌, subst, Option, Some, None, slice_get, arith}
use Rattle.std.specs.Option.{option_map}
use Rattle.std.specs.List.{AllByRecursion}
use Rattle.link_model.specs.Lane.{Frame, IsIn}
use Rattle.spb_types.specs.declared.link.Dir.{Dir}
use Rattle.spb_types.specs.declared.link.Dir.TheVariants.{Ab, Ba}
use Rattle.bridge_api.specs.View.{BridgeView, IsPort}
use Rattle.bridge_api.specs.Step.{Input, frame}
use Rattle.bridge_api.specs.Laws.{IsSoundView, IsSent}
use Rattle.bridge_laws.specs.Brief.{most_frame_bytes}
use Rattle.spb_world.specs.declared.declaration.DeclaredLink.{DeclaredLink}
use Rattle.link_model.specs.declared.lanes.LinkLanes.{LinkLanes}
use Rattle.link_model.specs.declared.lanes.LaneId.{LaneId}
use Rattle.spb_world.specs.World.{World, Bridges, things_of, Sound, AreDistinct, IsLink}
use Rattle.link_model.specs.Lanes.{lane_of}
use Rattle.network_model.specs.State.{State, links_of, Fits}
use Rattle.spb_world.specs.Links.{is_live, near_end, far_end, lane_out}
use Rattle.network_model.specs.Sound.{AreShort, IsShown, AreShown, IsFrameFrom, LinkAgrees, AllAgree, AreIdle}
use Rattle.spb_world.proofs.BoxLemmas.{All-get}
use Rattle.network_model.proofs.FitsLemmas.{IsAlike, Fits-alike, link_there, far_is_port}
use Rattle.network_model.proofs.SoundLane.{All-in, some-is, moved, sent_by, moved_same, AreInputs, moved_sound, IsMove, agrees_moved}
use Rattle.spb_world.proofs.SoundLaneIds.{turned, lane_of_end, LeadsFrom, lane_leads}

-- what is sound of a state, but for carrier, which comes and goes at one end of a link after the other
pub record IsCore (s : State) : Type 0 where
  pub world : Sound s.world
  pub distinct : AreDistinct s.world
  pub fits : Fits s
  pub shown : AreShown s.world s.views
  pub views : AllByRecursion IsSoundView s.views
  pub short : AreShort s.lanes
  pub idle : AreIdle (links_of s) s.lanes
  pub agree : AllAgree (links_of s) s.views s.lanes

-- a frame that comes to a port was on its way there
pub record Comes (links : List DeclaredLink) (lanes : List LinkLanes) (i p : ℕ) (f : Frame) : Type 0 where
  pub lane : LaneId
  pub out : lane_out links i p ≡ Some lane
  pub among : IsIn f (lane_of lanes lane.link (turned lane.dir))

-- a frame is sent in a move, over a link that is up
pub record GoesOut (links : List DeclaredLink) (o : ℕ → Option Input) (views : List BridgeView) (k : ℕ) (dir : Dir) (f : Frame) : Type 0 where
  pub place : ℕ
  pub port : ℕ
  pub view : BridgeView
  pub out : lane_out links place port ≡ Some (record { link = k; dir = dir })
  pub live : is_live links k ≡ true
  pub from : slice_get views place ≡ Some view
  pub sent : IsSent (sent_by (o place) view) port f

-- what comes to the bridge at each place is o, an input of it; what is on its way afterwards was so before, or is sent now
pub record Moves (links : List DeclaredLink) (o : ℕ → Option Input) (views views' : List BridgeView) (lanes lanes' : List LinkLanes) : Type 0 where
  pub bridges : (i : ℕ) → slice_get views' i ≡ option_map (moved (o i)) (slice_get views i)
  pub inputs : (i : ℕ) (v : BridgeView) → slice_get views i ≡ Some v → AreInputs v (o i)
  pub heard : (i p : ℕ) (f : Frame) → o i ≡ Some (frame p f) → Comes links lanes i p f
  pub frames : (k : ℕ) (dir : Dir) (f : Frame) → IsIn f (lane_of lanes' k dir) → IsIn f (lane_of lanes k dir) ⊎ GoesOut links o views k dir f

pub All-each : {X : Type 0} (P : X → Type 0) (xs : List X) → ((i : ℕ) (x : X) → slice_get xs i ≡ Some x → P x) → AllByRecursion P xs
All-each P [] each = tt
All-each P (x ∷ xs) each = (each zero x refl, All-each P xs (λ i y at. each (suc i) y at))

pub nothing_in : (fs : List Frame) → ((f : Frame) → IsIn f fs → ⊥) → fs ≡ []
nothing_in [] none = refl
nothing_in (f ∷ fs) none = absurd (none f (inl refl))

pub got_mapped : {X Y : Type 0} (f : X → Y) (o : Option X) (y : Y) → option_map f o ≡ Some y → (x : X) × (o ≡ Some x) × (y ≡ f x)
got_mapped f None y is = absurd cc
got_mapped f (Some x) y is = (x, refl, sym (some-is (f x) y is))

pub there_is : {X : Type 0} (xs : List X) (i : ℕ) → i < length xs → (x : X) × (slice_get xs i ≡ Some x)
there_is [] i within = absurd (omega (arith, within))
there_is (x ∷ xs) zero within = (x, refl)
there_is (x ∷ xs) (suc i) within = there_is xs i (omega (arith, within))

-- ---- the parts of what is sound

moves_views : (links : List DeclaredLink) (o : ℕ → Option Input) (views views' : List BridgeView) (lanes lanes' : List LinkLanes) → Moves links o views views' lanes lanes' → AllByRecursion IsSoundView views → AllByRecursion IsSoundView views'
moves_views links o views views' lanes lanes' move sound =
    All-each IsSoundView views' (λ i v at.
    let was = got_mapped (moved (o i)) (slice_get views i) v (sym (move.bridges i) ∙ at) in
    subst IsSoundView (sym was.2) (moved_sound (o i) was.0 (move.inputs i was.0 was.1) (All-get IsSoundView views i was.0 sound was.1)))

moves_shown : (w : World) (links : List DeclaredLink) (o : ℕ → Option Input) (views views' : List BridgeView) (lanes lanes' : List LinkLanes) → Moves links o views views' lanes lanes' → AreShown w views → AreShown w views'
moves_shown w links o views views' lanes lanes' move shown i v b at declared =
    let was = got_mapped (moved (o i)) (slice_get views i) v (sym (move.bridges i) ∙ at) in
    let same = moved_same (o i) was.0 in
    let before : IsShown w.vids b was.0 = shown i was.0 b was.1 declared in
    subst (IsShown w.vids b) (sym was.2) (record { id = same.id ∙ before.id; source = same.source ∙ before.source; vids = same.vids ∙ before.vids })

moves_idle : (links : List DeclaredLink) (o : ℕ → Option Input) (views views' : List BridgeView) (lanes lanes' : List LinkLanes) → Moves links o views views' lanes lanes' → AreIdle links lanes → AreIdle links lanes'
moves_idle links o views views' lanes lanes' move idle k dir dead =
    nothing_in (lane_of lanes' k dir) (λ f among.
    elim (move.frames k dir f among) [
      | inl old ↦ subst (IsIn f) (idle k dir dead) old
      | inr new ↦ true≢false (sym new.live ∙ dead)
    ])

-- the other direction of a link
agree_back : (links : List DeclaredLink) (views : List BridgeView) (lanes : List LinkLanes) → AllAgree links views lanes → (k : ℕ) (dir : Dir) (l : DeclaredLink) (v w : BridgeView) → slice_get links k ≡ Some l → slice_get views (near_end dir l).bridge ≡ Some v → slice_get views (far_end dir l).bridge ≡ Some w → AllByRecursion (IsFrameFrom w (far_end dir l).port v (near_end dir l).port) (lane_of lanes k (turned dir))
agree_back links views lanes agree k Ab l v w at at_v at_w = (agree k Ba l w v at at_w at_v).said
agree_back links views lanes agree k Ba l v w at at_v at_w = (agree k Ab l w v at at_w at_v).said

pub link-apart : (s : State) (k : ℕ) (l : DeclaredLink) → IsCore s → slice_get (links_of s) k ≡ Some l → l.a.bridge ≢ l.b.bridge
link-apart s k l core at = (link_there s k l core.world at).apart

-- what a bridge hears at an end of a link came over that link
heard_there : (s : State) (k : ℕ) (dir : Dir) (l : DeclaredLink) (f : Frame) → IsCore s → slice_get (links_of s) k ≡ Some l → Comes (links_of s) s.lanes (near_end dir l).bridge (near_end dir l).port f → IsIn f (lane_of s.lanes k (turned dir))
heard_there s k dir l f core at comes =
    let same : comes.lane ≡ record { link = k; dir = dir } = some-is comes.lane (record { link = k; dir = dir }) (sym comes.out ∙ lane_of_end (links_of s) k l dir core.world.links_apart (link-apart s k l core at) at) in
    subst (λ (lane : LaneId). IsIn f (lane_of s.lanes lane.link (turned lane.dir))) same comes.among

-- what goes out over a link is sent by the bridge at the near end
sent_there : (links : List DeclaredLink) (o : ℕ → Option Input) (views : List BridgeView) (k : ℕ) (dir : Dir) (l : DeclaredLink) (v : BridgeView) (f : Frame) → slice_get links k ≡ Some l → slice_get views (near_end dir l).bridge ≡ Some v → GoesOut links o views k dir f → IsSent (sent_by (o (near_end dir l).bridge) v) (near_end dir l).port f
sent_there links o views k dir l v f at at_v new =
    let leads : LeadsFrom links new.place new.port k dir = lane_leads links new.place new.port (record { link = k; dir = dir }) new.out in
    let link : leads.link ≡ l = some-is leads.link l (sym leads.there ∙ at) in
    let place : new.place ≡ (near_end dir l).bridge = sym leads.bridge ∙ ap (λ (h : DeclaredLink). (near_end dir h).bridge) link in
    let port : new.port ≡ (near_end dir l).port = sym leads.port ∙ ap (λ (h : DeclaredLink). (near_end dir h).port) link in
    let view : new.view ≡ v = some-is new.view v (sym new.from ∙ (ap (slice_get views) place ∙ at_v)) in
    subst (λ (p : ℕ). IsSent (sent_by (o (near_end dir l).bridge) v) p f) port
    (subst (λ (i : ℕ). IsSent (sent_by (o i) v) new.port f) place
    (subst (λ (u : BridgeView). IsSent (sent_by (o new.place) u) new.port f) view new.sent))

ends_within : (bridges : Bridges) (dir : Dir) (l : DeclaredLink) → IsLink bridges l → ((near_end dir l).bridge < length bridges) × ((far_end dir l).bridge < length bridges)
ends_within bridges Ab l link = (link.a.bridge, link.b.bridge)
ends_within bridges Ba l link = (link.b.bridge, link.a.bridge)

-- what is on its way over a link is brief
pub on_way_brief : (s : State) (k : ℕ) (dir : Dir) (l : DeclaredLink) (f : Frame) → IsCore s → slice_get (links_of s) k ≡ Some l → IsIn f (lane_of s.lanes k dir) → length f ≤ most_frame_bytes
on_way_brief s k dir l f core at among =
    let within = ends_within s.world.bridges dir l (link_there s k l core.world at) in
    let v = there_is s.views (near_end dir l).bridge (omega (arith, within.0, core.fits.bridges)) in
    let w = there_is s.views (far_end dir l).bridge (omega (arith, within.1, core.fits.bridges)) in
    (All-in (IsFrameFrom v.0 (near_end dir l).port w.0 (far_end dir l).port) (lane_of s.lanes k dir) f (core.agree k dir l v.0 w.0 at v.1 w.1).said among).brief

-- and so is what a bridge hears
heard_brief : (s : State) (i p : ℕ) (f : Frame) → IsCore s → Comes (links_of s) s.lanes i p f → length f ≤ most_frame_bytes
heard_brief s i p f core comes =
    let leads : LeadsFrom (links_of s) i p comes.lane.link comes.lane.dir = lane_leads (links_of s) i p comes.lane comes.out in
    on_way_brief s comes.lane.link (turned comes.lane.dir) leads.link f core leads.there comes.among

moves_agree : (s : State) (o : ℕ → Option Input) (views' : List BridgeView) (lanes' : List LinkLanes) → IsCore s → Moves (links_of s) o s.views views' s.lanes lanes' → AllAgree (links_of s) views' lanes'
moves_agree s o views' lanes' core move k dir l v' w' at at_v at_w =
    let near : ℕ = (near_end dir l).bridge in
    let far : ℕ = (far_end dir l).bridge in
    let was_v = got_mapped (moved (o near)) (slice_get s.views near) v' (sym (move.bridges near) ∙ at_v) in
    let was_w = got_mapped (moved (o far)) (slice_get s.views far) w' (sym (move.bridges far) ∙ at_w) in
    let port : IsPort was_w.0 (far_end dir l).port = far_is_port s k l dir core.world core.fits at was_w.0 was_w.1 in
    let sound_w : IsSoundView was_w.0 = All-get IsSoundView s.views far was_w.0 core.views was_w.1 in
    let here : IsMove was_v.0 (near_end dir l).port was_w.0 (far_end dir l).port (o near) (o far) (lane_of s.lanes k dir) (lane_of s.lanes k (turned dir)) (lane_of lanes' k dir) = record {
      input = move.inputs near was_v.0 was_v.1;
      first = All-get IsSoundView s.views near was_v.0 core.views was_v.1;
      second = sound_w;
      port = omega (arith, port.high, sound_w.few);
      there = core.agree k dir l was_v.0 was_w.0 at was_v.1 was_w.1;
      towards = agree_back (links_of s) s.views s.lanes core.agree k dir l was_v.0 was_w.0 at was_v.1 was_w.1;
      heard = λ f is. heard_there s k dir l f core at (move.heard near (near_end dir l).port f is);
      sends = λ f among. sends f was_v.0 was_v.1 (move.frames k dir f among);
      brief = λ r f is. heard_brief s near r f core (move.heard near r f is);
    } in
    subst (λ (v : BridgeView). LinkAgrees v (near_end dir l).port w' (far_end dir l).port (lane_of lanes' k dir)) (sym was_v.2)
    (subst (λ (w : BridgeView). LinkAgrees (moved (o near) was_v.0) (near_end dir l).port w (far_end dir l).port (lane_of lanes' k dir)) (sym was_w.2)
    (agrees_moved was_v.0 (near_end dir l).port was_w.0 (far_end dir l).port (o near) (o far) (lane_of s.lanes k dir) (lane_of s.lanes k (turned dir)) (lane_of lanes' k dir) here))
  where
    sends : (f : Frame) (v : BridgeView) → slice_get s.views (near_end dir l).bridge ≡ Some v → IsIn f (lane_of s.lanes k dir) ⊎ GoesOut (links_of s) o s.views k dir f → IsIn f (lane_of s.lanes k dir) ⊎ IsSent (sent_by (o (near_end dir l).bridge) v) (near_end dir l).port f
    sends f v from (inl old) = inl old
    sends f v from (inr new) = inr (sent_there (links_of s) o s.views k dir l v f at from new)

-- a move keeps all of it
pub sound_moves : (s t : State) (o : ℕ → Option Input) → IsCore s → t.world ≡ s.world → IsAlike s t → AreShort t.lanes → Moves (links_of s) o s.views t.views s.lanes t.lanes → IsCore t
sound_moves s t o core world alike short move = record {
  world = subst Sound (sym world) core.world;
  distinct = subst AreDistinct (sym world) core.distinct;
  fits = Fits-alike s t alike core.fits;
  shown = subst (λ (w : World). AreShown w t.views) (sym world) (moves_shown s.world (links_of s) o s.views t.views s.lanes t.lanes move core.shown);
  views = moves_views (links_of s) o s.views t.views s.lanes t.lanes move core.views;
  short = short;
  idle = subst (λ (w : World). AreIdle (things_of w.links) t.lanes) (sym world) (moves_idle (links_of s) o s.views t.views s.lanes t.lanes move core.idle);
  agree = subst (λ (w : World). AllAgree (things_of w.links) t.views t.lanes) (sym world) (moves_agree s o t.views t.lanes core move);
}
