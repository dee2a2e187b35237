-- Every event keeps what is sound of a network.
use Rattle.std.proofs.Common.{◌≡◌, ℕ, zero, suc, ◌+◌, Bool, true, false, List, [], length, refl, sym, ap, ◌∙◌, subst, Option, Some, None, slice_get}
use Rattle.std.specs.Prelude.{if◌then◌else◌}
use Rattle.std.specs.Option.{option_map_or}
use Rattle.link_model.specs.Lane.{Frame, after_lose, after_double, IsIn}
use Rattle.spb_types.specs.declared.link.Dir.{Dir}
use Rattle.spb_types.specs.declared.link.Dir.TheVariants.{Ab, Ba}
use Rattle.bridge_api.specs.View.{BridgeView}
use Rattle.bridge_api.specs.Step as comes
use Rattle.bridge_api.specs.Step.{Input, step, sent}
use Rattle.spb_world.specs.declared.declaration.DeclaredLink.{DeclaredLink}
use Rattle.spb_world.specs.declared.declaration.LinkEnd.{LinkEnd}
use Rattle.link_model.specs.declared.lanes.LinkLanes.{LinkLanes}
use Rattle.link_model.specs.declared.lanes.LaneId.{LaneId}
use Rattle.spb_world.specs.World.{World, things_of, Sound}
use Rattle.link_model.specs.Lanes.{changed_lane, rest, no_frames, lane_of, first_full_from}
use Rattle.spb_world.specs.Declaring.{with_live}
use Rattle.spb_types.specs.Places.{changed_at}
use Rattle.network_model.specs.State.{State, links_of, lane_at, with_frames}
use Rattle.spb_world.specs.Links.{far_end, is_at, lane_out}
use Rattle.network_model.specs.Events.{stepped, with_second, ticked, heard_over, delivered_front, delivered, lost, doubled, with_carrier_at_end, with_carrier_over, flushed, switched_off, switched_on, ticked_from, delivered_times, lane_served, served_from, one_round, rounds, delivered_over, delivered_first, drained}
use Rattle.network_model.specs.Sound.{AreShort, ends_live_link, HaveCarrierOfLinks, HaveLinkMetrics, AreAttached, IsSoundState}
use Rattle.spb_world.proofs.WorldLemmas.{switched-none}
use Rattle.network_model.proofs.FitsLemmas.{IsAlike, alike_itself, alike_with_frames, alike_flushed, link_there}
use Rattle.network_model.proofs.SoundLaws.{is_carrier}
use Rattle.spb_world.proofs.SoundLaneIds.{turned, near-turned, lane_of_end}
use Rattle.network_model.proofs.SoundMoves.{IsCore, Comes}
use Rattle.network_model.proofs.SoundSteps.{short_rest, short_lost, short_doubled, short_flushed, in_got, in_rest, in_lost, in_doubled, in_changed, in_flushed, flushed_lane, world-sent_all, views-sent_all, IsInputAt, core_stepped, core_fewer, core_with_live}
use Rattle.network_model.proofs.SoundCarrier.{HaveCarrier, carriers_stepped, carriers_with_carrier, carrier-switched}
use Rattle.network_model.proofs.SoundMetrics.{is_metric, with_metric_stepped, with_metric_switched}
use Rattle.network_model.proofs.SoundAttached.{is_service, attached_stepped}

-- the parts of what is sound
pub core_of : (s : State) → IsSoundState s → IsCore s
core_of s sound = record { world = sound.world; distinct = sound.distinct; fits = sound.fits; shown = sound.shown; views = sound.views; short = sound.short; idle = sound.idle; agree = sound.agree }

pub sound_from : (s : State) → IsCore s → HaveCarrierOfLinks (links_of s) s.views → HaveLinkMetrics (links_of s) s.views → AreAttached s.world s.views → IsSoundState s
sound_from s core carriers metrics attached = record { world = core.world; distinct = core.distinct; fits = core.fits; shown = core.shown; views = core.views; carriers = carriers; metrics = metrics; attached = attached; short = core.short; idle = core.idle; agree = core.agree }

-- ---- one bridge steps

pub stepped_world : (x : Input) (s : State) (i : ℕ) → (stepped x s i).world ≡ s.world
unfolding stepped
stepped_world x s i = world-sent_all (record s { views = changed_at (step x) s.views i }) i (option_map_or (sent x) (slice_get s.views i) [])

pub stepped_views : (x : Input) (s : State) (i : ℕ) → (stepped x s i).views ≡ changed_at (step x) s.views i
unfolding stepped
stepped_views x s i = views-sent_all (record s { views = changed_at (step x) s.views i }) i (option_map_or (sent x) (slice_get s.views i) [])

-- an input that doesn't change carrier, or set a metric
pub stepped_carriers : (x : Input) (s : State) (i : ℕ) → is_carrier x ≡ false → HaveCarrierOfLinks (links_of s) s.views → HaveCarrierOfLinks (links_of (stepped x s i)) (stepped x s i).views
stepped_carriers x s i other carriers =
    subst (λ (w : World). HaveCarrierOfLinks (things_of w.links) (stepped x s i).views) (sym (stepped_world x s i))
    (subst (λ (views : List BridgeView). HaveCarrierOfLinks (links_of s) views) (sym (stepped_views x s i))
    (carriers_stepped x s.views i (ends_live_link (links_of s)) other carriers))

pub stepped_with_metric : (x : Input) (s : State) (i : ℕ) → is_metric x ≡ false → HaveLinkMetrics (links_of s) s.views → HaveLinkMetrics (links_of (stepped x s i)) (stepped x s i).views
stepped_with_metric x s i other metrics =
    subst (λ (w : World). HaveLinkMetrics (things_of w.links) (stepped x s i).views) (sym (stepped_world x s i))
    (subst (λ (views : List BridgeView). HaveLinkMetrics (links_of s) views) (sym (stepped_views x s i))
    (with_metric_stepped x (links_of s) s.views i other metrics))

pub stepped_attached : (x : Input) (s : State) (i : ℕ) → is_service x ≡ false → AreAttached s.world s.views → AreAttached (stepped x s i).world (stepped x s i).views
stepped_attached x s i other attached =
    subst (λ (w : World). AreAttached w (stepped x s i).views) (sym (stepped_world x s i))
    (subst (AreAttached s.world) (sym (stepped_views x s i))
    (attached_stepped x s.world s.views i other attached))

-- an input that changes neither, after frames were lost or taken from lanes
pub stays_stepped : (x : Input) (s : State) (lanes : List LinkLanes) (i : ℕ) → IsInputAt s.views i x → is_carrier x ≡ false → is_metric x ≡ false → is_service x ≡ false → IsSoundState s → IsAlike s (record s { lanes = lanes }) → AreShort lanes → ((k : ℕ) (dir : Dir) (f : Frame) → IsIn f (lane_of lanes k dir) → IsIn f (lane_of s.lanes k dir)) → ((p : ℕ) (f : Frame) → x ≡ comes.frame p f → Comes (links_of s) s.lanes i p f) → IsSoundState (stepped x (record s { lanes = lanes }) i)
stays_stepped x s lanes i is_input same_carrier same_metric same_attached sound alike short fewer from =
    sound_from (stepped x (record s { lanes = lanes }) i) (core_stepped x s lanes i is_input (core_of s sound) alike short fewer from)
    (stepped_carriers x (record s { lanes = lanes }) i same_carrier sound.carriers)
    (stepped_with_metric x (record s { lanes = lanes }) i same_metric sound.metrics)
    (stepped_attached x (record s { lanes = lanes }) i same_attached sound.attached)

-- a second is counted
sound_second : (s : State) (i : ℕ) → IsSoundState s → IsSoundState (with_second s i)
sound_second s i sound = record {
  world = sound.world;
  distinct = sound.distinct;
  fits = record { bridges = sound.fits.bridges; lanes = sound.fits.lanes; ports = sound.fits.ports };
  shown = sound.shown;
  views = sound.views;
  carriers = sound.carriers;
  metrics = sound.metrics;
  attached = sound.attached;
  short = sound.short;
  idle = sound.idle;
  agree = sound.agree;
}

pub Sound-ticked : (s : State) (i : ℕ) → IsSoundState s → IsSoundState (ticked s i)
Sound-ticked s i sound =
    sound_second (stepped comes.second s i) i (stays_stepped comes.second s s.lanes i (λ v at. tt) refl refl refl sound (alike_itself s) sound.short (λ k dir f among. among) (λ p f is. absurd cc))

-- ---- a frame is delivered

pub turned-turned : (dir : Dir) → turned (turned dir) ≡ dir
turned-turned Ab = refl
turned-turned Ba = refl

-- the front of a lane comes to the far end of the link
pub front_comes : (s : State) (k : ℕ) (dir : Dir) (l : DeclaredLink) (bytes : Frame) → IsCore s → slice_get (links_of s) k ≡ Some l → slice_get (lane_at s k dir) 0 ≡ Some bytes → (p : ℕ) (f : Frame) → comes.frame (far_end dir l).port bytes ≡ comes.frame p f → Comes (links_of s) s.lanes (far_end dir l).bridge p f
front_comes s k dir l bytes core at front p f is =
    let port : (far_end dir l).port ≡ p = cc in
    let same : bytes ≡ f = cc in
    let out : lane_out (links_of s) (far_end dir l).bridge (far_end dir l).port ≡ Some (record { link = k; dir = turned dir }) =
    subst (λ (e : LinkEnd). lane_out (links_of s) e.bridge e.port ≡ Some (record { link = k; dir = turned dir })) (near-turned dir l) (lane_of_end (links_of s) k l (turned dir) core.world.links_apart (link_there s k l core.world at).apart at) in
    record {
      lane = record { link = k; dir = turned dir };
      out = subst (λ (q : ℕ). lane_out (links_of s) (far_end dir l).bridge q ≡ Some (record { link = k; dir = turned dir })) port out;
      among = subst (λ (d : Dir). IsIn f (lane_of s.lanes k d)) (sym (turned-turned dir)) (subst (λ (g : Frame). IsIn g (lane_of s.lanes k dir)) same (in_got bytes (lane_of s.lanes k dir) 0 front));
    }

pub fewer_rest : (s : State) (j : ℕ) (d : Dir) (k : ℕ) (dir : Dir) (f : Frame) → IsIn f (lane_of (changed_at (changed_lane d rest) s.lanes j) k dir) → IsIn f (lane_of s.lanes k dir)
fewer_rest s j d k dir f among = in_changed rest in_rest s.lanes j d k dir f among

-- frames are lost, doubled or taken
stays_fewer : (s : State) (lanes : List LinkLanes) → IsSoundState s → IsAlike s (record s { lanes = lanes }) → AreShort lanes → ((k : ℕ) (dir : Dir) (f : Frame) → IsIn f (lane_of lanes k dir) → IsIn f (lane_of s.lanes k dir)) → IsSoundState (record s { lanes = lanes })
stays_fewer s lanes sound alike short fewer = sound_from (record s { lanes = lanes }) (core_fewer s lanes (core_of s sound) alike short fewer) sound.carriers sound.metrics sound.attached

heard_sound : (s : State) (k : ℕ) (dir : Dir) (bytes : Frame) (o : Option DeclaredLink) → slice_get (links_of s) k ≡ o → slice_get (lane_at s k dir) 0 ≡ Some bytes → IsSoundState s → IsSoundState (heard_over (with_frames rest s k dir) dir bytes o)
heard_sound s k dir bytes None at front sound = stays_fewer s (changed_at (changed_lane dir rest) s.lanes k) sound (alike_with_frames rest s k dir) (short_rest s.lanes k dir sound.short) (fewer_rest s k dir)
heard_sound s k dir bytes (Some l) at front sound =
    stays_stepped (comes.frame (far_end dir l).port bytes) s (changed_at (changed_lane dir rest) s.lanes k) (far_end dir l).bridge (λ v at. tt) refl refl refl sound (alike_with_frames rest s k dir) (short_rest s.lanes k dir sound.short) (fewer_rest s k dir) (front_comes s k dir l bytes (core_of s sound) at front)

front_sound : (s : State) (k : ℕ) (dir : Dir) (o : Option Frame) → slice_get (lane_at s k dir) 0 ≡ o → IsSoundState s → IsSoundState (delivered_front s k dir o)
front_sound s k dir None front sound = sound
front_sound s k dir (Some bytes) front sound = heard_sound s k dir bytes (slice_get (links_of s) k) refl front sound

pub Sound-delivered : (s : State) (k : ℕ) (dir : Dir) → IsSoundState s → IsSoundState (delivered s k dir)
unfolding delivered
Sound-delivered s k dir sound = front_sound s k dir (slice_get (lane_at s k dir) 0) refl sound

-- ---- a frame is lost, or doubled

pub Sound-lost : (s : State) (k : ℕ) (dir : Dir) (place : ℕ) → IsSoundState s → IsSoundState (lost s k dir place)
Sound-lost s k dir place sound =
    let g : List Frame → List Frame = λ frames. after_lose frames place in
    stays_fewer s (changed_at (changed_lane dir g) s.lanes k) sound (alike_with_frames g s k dir) (short_lost place s.lanes k dir sound.short) (λ j d f among. in_changed g (λ h frames. in_lost h frames place) s.lanes k dir j d f among)

pub Sound-doubled : (s : State) (k : ℕ) (dir : Dir) (place : ℕ) → IsSoundState s → IsSoundState (doubled s k dir place)
Sound-doubled s k dir place sound =
    let g : List Frame → List Frame = λ frames. after_double frames place (slice_get frames place) in
    stays_fewer s (changed_at (changed_lane dir g) s.lanes k) sound (alike_with_frames g s k dir) (short_doubled place s.lanes k dir sound.short) (λ j d f among. in_changed g (λ h frames. in_doubled h frames place) s.lanes k dir j d f among)

pub Sound-flushed : (s : State) (k : ℕ) → IsSoundState s → IsSoundState (flushed s k)
Sound-flushed s k sound = stays_fewer s (changed_at (λ lanes. no_frames) s.lanes k) sound (alike_flushed s k) (λ j dir. short_flushed s.lanes k j dir (sound.short j dir)) (in_flushed s.lanes k)

-- ---- a link is switched

pub core_with_carrier : (on : Bool) (s : State) (e : LinkEnd) → IsCore s → IsCore (with_carrier_at_end on s e)
core_with_carrier on s e core = core_stepped (comes.carrier e.port on) s s.lanes e.bridge (λ v at. tt) core (alike_itself s) core.short (λ k dir f among. among) (λ p f is. absurd cc)

pub with_carrier_world : (on : Bool) (s : State) (e : LinkEnd) → (with_carrier_at_end on s e).world ≡ s.world
with_carrier_world on s e = stepped_world (comes.carrier e.port on) s e.bridge

pub carrier_stands : (on : Bool) (s : State) (e : LinkEnd) (carriers : ℕ → ℕ → Bool) → HaveCarrier s.views carriers → HaveCarrier (with_carrier_at_end on s e).views (λ i p. if is_at e i p then on else carriers i p)
carrier_stands on s e carriers have = subst (λ (views : List BridgeView). HaveCarrier views (λ i p. if is_at e i p then on else carriers i p)) (sym (stepped_views (comes.carrier e.port on) s e.bridge)) (carriers_with_carrier on s.views e carriers have)

-- the link at a place is switched, and both ends learn it
switched_sound : (on : Bool) (s t : State) (k : ℕ) (o : Option DeclaredLink) → t.world ≡ with_live on s.world k → t.views ≡ s.views → IsCore t → HaveCarrierOfLinks (links_of s) s.views → HaveLinkMetrics (links_of t) t.views → AreAttached t.world t.views → Sound s.world → slice_get (links_of s) k ≡ o → IsSoundState (with_carrier_over on t o)
unfolding with_live
switched_sound on s t k None world views core carriers metrics attached sound at =
    let same : things_of s.world.links ≡ things_of t.world.links = ap things_of (switched-none on s.world.links k at) ∙ sym (ap (λ (w : World). things_of w.links) world) in
    sound_from t core (subst (λ (vs : List BridgeView). HaveCarrierOfLinks (links_of t) vs) (sym views) (subst (λ (ls : List DeclaredLink). HaveCarrierOfLinks ls s.views) same carriers)) metrics attached
switched_sound on s t k (Some l) world views core carriers metrics attached sound at =
    let u : State = with_carrier_at_end on t l.a in
    let x : State = with_carrier_at_end on u l.b in
    let link = link_there s k l sound at in
    let first : HaveCarrier u.views (λ i p. if is_at l.a i p then on else ends_live_link (links_of s) i p) = carrier_stands on t l.a (ends_live_link (links_of s)) (subst (λ (vs : List BridgeView). HaveCarrier vs (ends_live_link (links_of s))) (sym views) carriers) in
    let both : HaveCarrier x.views (λ i p. if is_at l.b i p then on else (if is_at l.a i p then on else ends_live_link (links_of s) i p)) = carrier_stands on u l.b (λ i p. if is_at l.a i p then on else ends_live_link (links_of s) i p) first in
    let there : x.world ≡ with_live on s.world k = with_carrier_world on u l.b ∙ (with_carrier_world on t l.a ∙ world) in
    sound_from x (core_with_carrier on u l.b (core_with_carrier on t l.a core))
    (subst (λ (w : World). HaveCarrierOfLinks (things_of w.links) x.views) (sym there)
    (λ i v p at_v port. both i v p at_v port ∙ carrier-switched on s.world.links k l sound.links_apart link.apart at i p))
    (stepped_with_metric (comes.carrier l.b.port on) u l.b.bridge refl (stepped_with_metric (comes.carrier l.a.port on) t l.a.bridge refl metrics))
    (stepped_attached (comes.carrier l.b.port on) u l.b.bridge refl (stepped_attached (comes.carrier l.a.port on) t l.a.bridge refl attached))

live_with_metric : (on : Bool) (s : State) (k : ℕ) → HaveLinkMetrics (links_of s) s.views → HaveLinkMetrics (things_of (with_live on s.world k).links) s.views
unfolding with_live
live_with_metric on s k metrics = with_metric_switched on s.world.links k s.views metrics

live_attached : (on : Bool) (s : State) (k : ℕ) → AreAttached s.world s.views → AreAttached (with_live on s.world k) s.views
unfolding with_live
live_attached on s k attached = attached

pub Sound-switched_on : (s : State) (k : ℕ) → IsSoundState s → IsSoundState (switched_on s k)
unfolding switched_on
Sound-switched_on s k sound =
    switched_sound true s (record s { world = with_live true s.world k }) k (slice_get (links_of s) k) refl refl (core_with_live true s k (core_of s sound) (λ is dir. absurd cc)) sound.carriers (live_with_metric true s k sound.metrics) (live_attached true s k sound.attached) sound.world refl

pub Sound-switched_off : (s : State) (k : ℕ) → IsSoundState s → IsSoundState (switched_off s k)
unfolding switched_off
Sound-switched_off s k sound =
    let t : State = flushed s k in
    switched_sound false s (record t { world = with_live false t.world k }) k (slice_get (links_of s) k) refl refl (core_with_live false t k (core_of t (Sound-flushed s k sound)) (λ is dir. flushed_lane s.lanes k dir)) sound.carriers (live_with_metric false t k sound.metrics) (live_attached false t k sound.attached) sound.world refl

-- ---- rounds and drains

pub Sound-ticked_from : (n i : ℕ) (s : State) → IsSoundState s → IsSoundState (ticked_from n i s)
Sound-ticked_from zero i s sound = sound
Sound-ticked_from (suc n) i s sound = Sound-ticked_from n (i + 1) (ticked s i) (Sound-ticked s i sound)

pub Sound-delivered_times : (n k : ℕ) (dir : Dir) (s : State) → IsSoundState s → IsSoundState (delivered_times n k dir s)
Sound-delivered_times zero k dir s sound = sound
Sound-delivered_times (suc n) k dir s sound = Sound-delivered_times n k dir (delivered s k dir) (Sound-delivered s k dir sound)

pub Sound-lane_served : (s : State) (k : ℕ) (dir : Dir) → IsSoundState s → IsSoundState (lane_served s k dir)
unfolding lane_served
Sound-lane_served s k dir sound = Sound-delivered_times (length (lane_at s k dir)) k dir s sound

pub Sound-served_from : (n k : ℕ) (s : State) → IsSoundState s → IsSoundState (served_from n k s)
Sound-served_from zero k s sound = sound
Sound-served_from (suc n) k s sound =
    let t : State = lane_served s k Ab in
    Sound-served_from n (k + 1) (lane_served t k Ba) (Sound-lane_served t k Ba (Sound-lane_served s k Ab sound))

pub Sound-one_round : (s : State) → IsSoundState s → IsSoundState (one_round s)
unfolding one_round
Sound-one_round s sound =
    let t : State = ticked_from (length s.views) 0 s in
    Sound-served_from (length t.lanes) 0 t (Sound-ticked_from (length s.views) 0 s sound)

pub Sound-rounds : (n : ℕ) (s : State) → IsSoundState s → IsSoundState (rounds n s)
Sound-rounds zero s sound = sound
Sound-rounds (suc n) s sound = Sound-rounds n (one_round s) (Sound-one_round s sound)

delivered_over_sound : (s : State) (lane : Option LaneId) → IsSoundState s → IsSoundState (delivered_over s lane)
delivered_over_sound s None sound = sound
delivered_over_sound s (Some lane) sound = Sound-delivered s lane.link lane.dir sound

pub Sound-delivered_first : (s : State) → IsSoundState s → IsSoundState (delivered_first s)
unfolding delivered_first
Sound-delivered_first s sound = delivered_over_sound s (first_full_from 0 s.lanes) sound

pub Sound-drained : (n : ℕ) (s : State) → IsSoundState s → IsSoundState (drained n s)
Sound-drained zero s sound = sound
Sound-drained (suc n) s sound = Sound-drained n (delivered_first s) (Sound-delivered_first s sound)
