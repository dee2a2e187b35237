-- An end of a link gets another metric, and its bridge is told it.
use Rattle.std.proofs.Common.{◌≡◌, ◌≢◌, ◌⊎◌, inl, inr, ◌+◌, ℕ, zero, suc, Bool, true, false, true≢false, List, [], ◌∷◌, refl, sym, ap, ◌∙◌, subst, Option, Some, None, slice_get}
use Rattle.std.specs.Option.{option_map, option_or}
use Rattle.spb_types.specs.declared.link.Dir.{Dir}
use Rattle.spb_types.specs.declared.link.Dir.TheVariants.{Ab, Ba}
use Rattle.spb_types.specs.declared.link.Side.{Side}
use Rattle.spb_types.specs.declared.link.Side.TheVariants as side
use Rattle.bridge_api.specs.View.{BridgeView}
use Rattle.bridge_api.specs.Config.{ArePairwise, IsMetric}
use Rattle.bridge_api.specs.Step as comes
use Rattle.spb_world.specs.declared.declaration.DeclaredLink.{DeclaredLink}
use Rattle.spb_world.specs.declared.declaration.LinkEnd.{LinkEnd}
use Rattle.link_model.specs.declared.lanes.LinkLanes.{LinkLanes}
use Rattle.link_model.specs.declared.lanes.LaneId.{LaneId}
use Rattle.spb_world.specs.World.{World, Links, names_of, things_of}
use Rattle.spb_world.specs.Declaring.{end_on, link_with_metric, links_with_metric, with_end_metric}
use Rattle.link_model.specs.Lanes.{lane_of}
use Rattle.network_model.specs.State.{State, links_of}
use Rattle.spb_world.specs.Links.{is_live, near_end, far_end, is_at, direction, lane_of_link, lane_out_from, lane_out}
use Rattle.network_model.specs.Events.{with_metric_at_end, with_metric_on, with_metric_changed}
use Rattle.network_model.specs.Sound.{ends_live_link, HaveCarrierOfLinks, metric_at, HaveLinkMetrics, AreAttached, LinkAgrees, AllAgree, IsSoundState}
use Rattle.spb_world.proofs.WorldLemmas.{end_on-is, Sound-with_end_metric}
use Rattle.network_model.proofs.FitsLemmas.{Fits-with_end_metric, link_there, near_is_port}
use Rattle.network_model.proofs.SoundLane.{some-is}
use Rattle.spb_world.proofs.SoundLaneIds.{turned, near-turned, at_itself, at_parts, lane_of_end}
use Rattle.network_model.proofs.SoundMoves.{IsCore}
use Rattle.network_model.proofs.SoundCarrier.{carriers_by}
use Rattle.network_model.proofs.SoundMetrics.{after_end, with_metric_end, with_metric_away}
use Rattle.network_model.proofs.SoundEvents.{core_of, sound_from, stepped_world, stepped_views, stepped_carriers, stepped_attached}
use Rattle.network_model.proofs.SoundLinks.{end_metric, core_with_metric}

-- ---- the links, of which one has another metric at one end

-- the direction that leads away from a side
abbrev dir_of : Side → Dir
dir_of side.A = Ab
dir_of side.B = Ba

near-side : (on : Side) (l : DeclaredLink) → near_end (dir_of on) l ≡ end_on on l
near-side side.A l = refl
near-side side.B l = refl

-- the end of a link, before and after
record IsSameEnd (e f : LinkEnd) : Type 0 where
  bridge : e.bridge ≡ f.bridge
  port : e.port ≡ f.port

same_itself : (e f : LinkEnd) → e ≡ f → IsSameEnd e f
same_itself e f is = record { bridge = ap (λ (g : LinkEnd). g.bridge) is; port = ap (λ (g : LinkEnd). g.port) is }

-- the link that stood at a place: each of its ends is the same, but for the one that got its metric
record IsLinkWithMetrics (on : Side) (links : List DeclaredLink) (k j : ℕ) (h : DeclaredLink) : Type 0 where
  link : DeclaredLink
  there : slice_get links j ≡ Some link
  ends : (dir : Dir) → IsSameEnd (near_end dir link) (near_end dir h)
  metric : (dir : Dir) → ((j ≡ k) × (dir ≡ dir_of on)) ⊎ ((near_end dir link).metric ≡ (near_end dir h).metric)

ends_with_metric : (on : Side) (m : ℕ) (l : DeclaredLink) (dir : Dir) → IsSameEnd (near_end dir l) (near_end dir (link_with_metric on m l))
ends_with_metric side.A m l Ab = record { bridge = refl; port = refl }
ends_with_metric side.A m l Ba = record { bridge = refl; port = refl }
ends_with_metric side.B m l Ab = record { bridge = refl; port = refl }
ends_with_metric side.B m l Ba = record { bridge = refl; port = refl }

metric_with_metric : (on : Side) (m : ℕ) (l : DeclaredLink) (dir : Dir) → (dir ≡ dir_of on) ⊎ ((near_end dir l).metric ≡ (near_end dir (link_with_metric on m l)).metric)
metric_with_metric side.A m l Ab = inl refl
metric_with_metric side.A m l Ba = inr refl
metric_with_metric side.B m l Ab = inr refl
metric_with_metric side.B m l Ba = inl refl

with_metric_here : (on : Side) (m : ℕ) (l : DeclaredLink) (ls : List DeclaredLink) → IsLinkWithMetrics on (l ∷ ls) 0 0 (link_with_metric on m l)
with_metric_here on m l ls = record {
  link = l;
  there = refl;
  ends = ends_with_metric on m l;
  metric = λ dir.
      elim (metric_with_metric on m l dir) [
        | inl here ↦ inl (refl, here)
        | inr same ↦ inr same
      ];
}

with_metric_link : (on : Side) (m : ℕ) (ls : Links) (k j : ℕ) (h : DeclaredLink) → slice_get (things_of (links_with_metric on m ls k)) j ≡ Some h → IsLinkWithMetrics on (things_of ls) k j h
with_metric_link on m [] k j h at = absurd cc
with_metric_link on m (l ∷ ls) zero zero h at = subst (λ (g : DeclaredLink). IsLinkWithMetrics on (l.1 ∷ things_of ls) 0 0 g) (some-is (link_with_metric on m l.1) h at) (with_metric_here on m l.1 (things_of ls))
with_metric_link on m (l ∷ ls) zero (suc j) h at = record { link = h; there = at; ends = λ dir. record { bridge = refl; port = refl }; metric = λ dir. inr refl }
with_metric_link on m (l ∷ ls) (suc k) zero h at =
    let is : l.1 ≡ h = some-is l.1 h at in
    record { link = l.1; there = refl; ends = λ dir. same_itself (near_end dir l.1) (near_end dir h) (ap (near_end dir) is); metric = λ dir. inr (ap (λ (g : DeclaredLink). (near_end dir g).metric) is) }
with_metric_link on m (l ∷ ls) (suc k) (suc j) h at =
    let rest = with_metric_link on m ls k j h at in
    record {
      link = rest.link;
      there = rest.there;
      ends = rest.ends;
      metric = λ dir.
          elim (rest.metric dir) [
            | inl here ↦ inl (ap suc here.0, here.1)
            | inr same ↦ inr same
          ];
    }

live-with_metric : (on : Side) (m : ℕ) (ls : Links) (k j : ℕ) → is_live (things_of (links_with_metric on m ls k)) j ≡ is_live (things_of ls) j
live-with_metric on m [] k j = refl
live-with_metric side.A m (l ∷ ls) zero zero = refl
live-with_metric side.B m (l ∷ ls) zero zero = refl
live-with_metric on m (l ∷ ls) zero (suc j) = refl
live-with_metric on m (l ∷ ls) (suc k) zero = refl
live-with_metric on m (l ∷ ls) (suc k) (suc j) = live-with_metric on m ls k j

names-with_metric : (on : Side) (m : ℕ) (ls : Links) (k : ℕ) → names_of (links_with_metric on m ls k) ≡ names_of ls
names-with_metric on m [] k = refl
names-with_metric on m (l ∷ ls) zero = refl
names-with_metric on m (l ∷ ls) (suc k) = ap (λ names. l.0 ∷ names) (names-with_metric on m ls k)

direction-with_metric : (on : Side) (m : ℕ) (l : DeclaredLink) (i p : ℕ) → direction (link_with_metric on m l) i p ≡ direction l i p
direction-with_metric side.A m l i p = refl
direction-with_metric side.B m l i p = refl

out-with_metric_from : (n : ℕ) (on : Side) (m : ℕ) (ls : Links) (k i p : ℕ) → lane_out_from n (things_of (links_with_metric on m ls k)) i p ≡ lane_out_from n (things_of ls) i p
out-with_metric_from n on m [] k i p = refl
out-with_metric_from n on m (l ∷ ls) zero i p = ap (λ (d : Option Dir). option_or (option_map (λ dir. record { link = n; dir = dir }) d) (lane_out_from (n + 1) (things_of ls) i p)) (direction-with_metric on m l.1 i p)
out-with_metric_from n on m (l ∷ ls) (suc k) i p = ap (λ (o : Option LaneId). option_or (lane_of_link n l.1 i p) o) (out-with_metric_from (n + 1) on m ls k i p)

out-with_metric : (on : Side) (m : ℕ) (ls : Links) (k i p : ℕ) → lane_out (things_of (links_with_metric on m ls k)) i p ≡ lane_out (things_of ls) i p
unfolding lane_out
out-with_metric on m ls k i p = out-with_metric_from 0 on m ls k i p

carriers_with_metric_by : (on : Side) (m : ℕ) (ls : Links) (k : ℕ) (o : Option LaneId) → carriers_by (things_of (links_with_metric on m ls k)) o ≡ carriers_by (things_of ls) o
carriers_with_metric_by on m ls k None = refl
carriers_with_metric_by on m ls k (Some lane) = live-with_metric on m ls k lane.link

carrier-with_metric : (on : Side) (m : ℕ) (ls : Links) (k i p : ℕ) → ends_live_link (things_of (links_with_metric on m ls k)) i p ≡ ends_live_link (things_of ls) i p
carrier-with_metric on m ls k i p = ap (carriers_by (things_of (links_with_metric on m ls k))) (out-with_metric on m ls k i p) ∙ carriers_with_metric_by on m ls k (lane_out (things_of ls) i p)

-- ---- what is sound, before the bridge is told

agree_with_metric : (on : Side) (m : ℕ) (ls : Links) (k : ℕ) (views : List BridgeView) (lanes : List LinkLanes) → AllAgree (things_of ls) views lanes → AllAgree (things_of (links_with_metric on m ls k)) views lanes
agree_with_metric on m ls k views lanes agree j dir h v w at at_v at_w =
    let was = with_metric_link on m ls k j h at in
    let near : IsSameEnd (near_end dir was.link) (near_end dir h) = was.ends dir in
    let far : IsSameEnd (far_end dir was.link) (far_end dir h) = subst (λ (e : LinkEnd). IsSameEnd e (far_end dir h)) (near-turned dir was.link) (subst (IsSameEnd (near_end (turned dir) was.link)) (near-turned dir h) (was.ends (turned dir))) in
    subst (λ (q : ℕ). LinkAgrees v (near_end dir h).port w q (lane_of lanes j dir)) far.port
    (subst (λ (p : ℕ). LinkAgrees v p w (far_end dir was.link).port (lane_of lanes j dir)) near.port
    (agree j dir was.link v w was.there (ap (slice_get views) near.bridge ∙ at_v) (ap (slice_get views) far.bridge ∙ at_w)))

pub core_with_end_metric : (on : Side) (m : ℕ) (s : State) (k : ℕ) → IsMetric m → IsCore s → IsCore (record s { world = with_end_metric on m s.world k })
unfolding with_end_metric
core_with_end_metric on m s k is core = record {
  world = Sound-with_end_metric on m s.world k is core.world;
  distinct = record { bridges = core.distinct.bridges; sources = core.distinct.sources; links = subst (ArePairwise (λ x y. x ≢ y)) (sym (names-with_metric on m s.world.links k)) core.distinct.links };
  fits = Fits-with_end_metric on m s k core.fits;
  shown = core.shown;
  views = core.views;
  short = core.short;
  idle = λ j dir dead. core.idle j dir (sym (live-with_metric on m s.world.links k j) ∙ dead);
  agree = agree_with_metric on m s.world.links k s.views s.lanes core.agree;
}

carriers_with_end_metric : (on : Side) (m : ℕ) (s : State) (k : ℕ) → HaveCarrierOfLinks (links_of s) s.views → HaveCarrierOfLinks (things_of (with_end_metric on m s.world k).links) s.views
unfolding with_end_metric
carriers_with_end_metric on m s k carriers i v p at port = carriers i v p at port ∙ sym (carrier-with_metric on m s.world.links k i p)

attached_with_end_metric : (on : Side) (m : ℕ) (s : State) (k : ℕ) → AreAttached s.world s.views → AreAttached (with_end_metric on m s.world k) s.views
unfolding with_end_metric
attached_with_end_metric on m s k attached = attached

-- ---- the bridge is told

-- two ends at one port are the same end of the same link
same_port : (s : State) (k j : ℕ) (l h : DeclaredLink) (d dir : Dir) → IsCore s → slice_get (links_of s) k ≡ Some l → slice_get (links_of s) j ≡ Some h → is_at (near_end d l) (near_end dir h).bridge (near_end dir h).port ≡ true → (j ≡ k) × (dir ≡ d)
same_port s k j l h d dir core at_l at_h at =
    let parts = at_parts (near_end d l) (near_end dir h).bridge (near_end dir h).port at in
    let out_l : lane_out (links_of s) (near_end d l).bridge (near_end d l).port ≡ Some (record { link = k; dir = d }) = lane_of_end (links_of s) k l d core.world.links_apart (link_there s k l core.world at_l).apart at_l in
    let out_h : lane_out (links_of s) (near_end dir h).bridge (near_end dir h).port ≡ Some (record { link = j; dir = dir }) = lane_of_end (links_of s) j h dir core.world.links_apart (link_there s j h core.world at_h).apart at_h in
    let same : record { link = j; dir = dir } ≡ record { link = k; dir = d } = some-is _ _ (sym out_h ∙ (sym (λ i. lane_out (links_of s) (parts.0 i) (parts.1 i)) ∙ out_l)) in
    (ap (λ (lane : LaneId). lane.link) same, ap (λ (lane : LaneId). lane.dir) same)

-- each port at an end of a link has its metric, but for the one end that got another
abbrev MetricsBut : State → ℕ → Dir → Type 0
MetricsBut s k d = (j : ℕ) (dir : Dir) (h : DeclaredLink) (v : BridgeView) → slice_get (links_of s) j ≡ Some h → slice_get s.views (near_end dir h).bridge ≡ Some v → ((j ≡ k) × (dir ≡ d)) ⊎ (metric_at v (near_end dir h).port ≡ Some (near_end dir h).metric)

shown_metric : (s : State) (k : ℕ) (l : DeclaredLink) (d : Dir) → IsCore s → slice_get (links_of s) k ≡ Some l → MetricsBut s k d → HaveLinkMetrics (links_of s) (after_end s.views (near_end d l))
shown_metric s k l d core at_l have j dir h v at at_v = by (is_at (near_end d l) (near_end dir h).bridge (near_end dir h).port) refl
  where
    told : (j ≡ k) × (dir ≡ d) → metric_at v (near_end dir h).port ≡ Some (near_end dir h).metric
    told is =
        let link : l ≡ h = some-is l h (sym at_l ∙ (ap (slice_get (links_of s)) (sym is.0) ∙ at)) in
        let end : near_end d l ≡ near_end dir h = λ i. near_end (sym is.1 i) (link i) in
        subst (λ (e : LinkEnd). metric_at v e.port ≡ Some e.metric) end
        (with_metric_end s.views (near_end d l) v (near_is_port s k l d core.world core.fits at_l) (ap (λ (e : LinkEnd). slice_get (after_end s.views (near_end d l)) e.bridge) end ∙ at_v))

    kept : is_at (near_end d l) (near_end dir h).bridge (near_end dir h).port ≡ false → (u : BridgeView) → slice_get s.views (near_end dir h).bridge ≡ Some u → metric_at u (near_end dir h).port ≡ Some (near_end dir h).metric
    kept apart u at_u =
        elim (have j dir h u at at_u) [
          | inl here ↦
              let link : l ≡ h = some-is l h (sym at_l ∙ (ap (slice_get (links_of s)) (sym here.0) ∙ at)) in
              let end : near_end d l ≡ near_end dir h = λ i. near_end (sym here.1 i) (link i) in
              absurd (true≢false (sym (at_itself (near_end d l) (near_end dir h).bridge (near_end dir h).port (ap (λ (e : LinkEnd). e.bridge) end) (ap (λ (e : LinkEnd). e.port) end)) ∙ apart))
          | inr same ↦ same
        ]

    by : (b : Bool) → is_at (near_end d l) (near_end dir h).bridge (near_end dir h).port ≡ b → metric_at v (near_end dir h).port ≡ Some (near_end dir h).metric
    by true here = told (same_port s k j l h d dir core at_l at here)
    by false apart = with_metric_away s.views (near_end d l) (near_end dir h).bridge (near_end dir h).port v (Some (near_end dir h).metric) apart (kept apart) at_v

with_metric_but : (on : Side) (m : ℕ) (s : State) (k : ℕ) → HaveLinkMetrics (links_of s) s.views → MetricsBut (record s { world = with_end_metric on m s.world k }) k (dir_of on)
unfolding with_end_metric
with_metric_but on m s k have j dir h v at at_v =
    let was = with_metric_link on m s.world.links k j h at in
    let end : IsSameEnd (near_end dir was.link) (near_end dir h) = was.ends dir in
    elim (was.metric dir) [
      | inl here ↦ inl here
      | inr same ↦ inr (ap (metric_at v) (sym end.port) ∙ (have j dir was.link v was.there (ap (slice_get s.views) end.bridge ∙ at_v) ∙ ap (λ (n : ℕ). Some n) same))
    ]

-- past the last link nothing changed
with_metric_past : (on : Side) (m : ℕ) (ls : Links) (k : ℕ) → slice_get (things_of (links_with_metric on m ls k)) k ≡ None → ls ≡ links_with_metric on m ls k
with_metric_past on m [] k none = refl
with_metric_past on m (l ∷ ls) zero none = absurd cc
with_metric_past on m (l ∷ ls) (suc k) none = ap (λ (more : Links). l ∷ more) (with_metric_past on m ls k none)

none_with_metric : (on : Side) (m : ℕ) (s : State) (k : ℕ) → HaveLinkMetrics (links_of s) s.views → slice_get (things_of (with_end_metric on m s.world k).links) k ≡ None → HaveLinkMetrics (things_of (with_end_metric on m s.world k).links) s.views
unfolding with_end_metric
none_with_metric on m s k have none = subst (λ (ls : Links). HaveLinkMetrics (things_of ls) s.views) (with_metric_past on m s.world.links k none) have

-- the bridge of the end that got its metric is told it
shown_sound : (s : State) (k : ℕ) (on : Side) (o : Option DeclaredLink) → IsCore s → HaveCarrierOfLinks (links_of s) s.views → AreAttached s.world s.views → MetricsBut s k (dir_of on) → (o ≡ None → HaveLinkMetrics (links_of s) s.views) → slice_get (links_of s) k ≡ o → IsSoundState (with_metric_on on s o)
shown_sound s k on None core carriers attached but none at = sound_from s core carriers (none refl) attached
shown_sound s k on (Some l) core carriers attached but none at =
    sound_from x (core_with_metric s e (end_metric s.world.bridges e (end_on-is on s.world.bridges l (link_there s k l core.world at))) core) (stepped_carriers (comes.metric e.port e.metric) s e.bridge refl carriers)
    (subst (λ (w : World). HaveLinkMetrics (things_of w.links) x.views) (sym (stepped_world (comes.metric e.port e.metric) s e.bridge))
    (subst (λ (vs : List BridgeView). HaveLinkMetrics (links_of s) vs) (sym (stepped_views (comes.metric e.port e.metric) s e.bridge))
    (subst (λ (f : LinkEnd). HaveLinkMetrics (links_of s) (after_end s.views f)) (near-side on l) (shown_metric s k l (dir_of on) core at but))))
    (stepped_attached (comes.metric e.port e.metric) s e.bridge refl attached)
  where
    e : LinkEnd
    e = end_on on l

    x : State
    x = with_metric_at_end s e

pub Sound-metric_changed : (s : State) (k : ℕ) (on : Side) (m : ℕ) → IsMetric m → IsSoundState s → IsSoundState (with_metric_changed s k on m)
unfolding with_metric_changed
Sound-metric_changed s k on m is sound =
    let t : State = record s { world = with_end_metric on m s.world k } in
    shown_sound t k on (slice_get (links_of t) k) (core_with_end_metric on m s k is (core_of s sound)) (carriers_with_end_metric on m s k sound.carriers) (attached_with_end_metric on m s k sound.attached) (with_metric_but on m s k sound.metrics) (none_with_metric on m s k sound.metrics) refl
