-- A bridge that restarts leaves the network sound.
use Rattle.std.proofs.Common.{◌≡◌, ◌≢◌, ◌⊎◌, inl, inr, ◌≤◌, ◌<◌, ◌+◌, ℕ, zero, suc, Bool, true, false, true≢false, List, [], ◌∷◌, length, refl, sym, ap, ◌∙◌, subst, Option, Some, None, slice_get, arith}
use Rattle.std.specs.Prelude.{◌==◌, if◌then◌else◌, slice_set}
use Rattle.std.specs.List.{AllByRecursion}
use Rattle.std.specs.Option.{option_and_then}
use Rattle.std.proofs.lemmas.Bool.{cases_eq, eq-eqb, ne_eqb}
use Rattle.link_model.specs.Lane.{Frame}
use Rattle.link_model.specs.Lanes.{lane_of}
use Rattle.spb_types.specs.declared.link.Dir.{Dir}
use Rattle.spb_types.specs.declared.link.Dir.TheVariants.{Ab, Ba}
use Rattle.adjacency.specs.declared.state.AdjState.{AdjState}
use Rattle.adjacency.specs.declared.state.AdjState.TheVariants.{Down, Initializing, Up}
use Rattle.adjacency.specs.Hearing.{End}
use Rattle.adjacency.specs.Adjacency.{is_up, kept_in, neighbour_of}
use Rattle.bridge_api.specs.declared.config.BridgeConfig.{BridgeConfig}
use Rattle.bridge_api.specs.declared.port.BridgePort.{BridgePort}
use Rattle.bridge_api.specs.View.{BridgeView, IsPort, port_at, neighbour_at, is_up_in, is_up_at, has_carrier_at}
use Rattle.bridge_api.specs.Config.{IsWhole, bare, configured}
use Rattle.bridge_api.specs.Step as comes
use Rattle.bridge_api.specs.Laws.{IsSoundView}
use Rattle.bridge_api.proofs.Places.{got_at, got_beside}
use Rattle.link_model.specs.declared.lanes.LaneId.{LaneId}
use Rattle.spb_world.specs.declared.declaration.DeclaredBridge.{DeclaredBridge}
use Rattle.spb_world.specs.declared.declaration.DeclaredLink.{DeclaredLink}
use Rattle.spb_world.specs.declared.declaration.LinkEnd.{LinkEnd}
use Rattle.spb_world.specs.World.{World, things_of, attached_at}
use Rattle.network_model.specs.State.{State, links_of, HasPorts, Fits}
use Rattle.spb_world.specs.Links.{is_live, near_end, far_end, is_at, lane_out, ends_here, end_here}
use Rattle.network_model.specs.Events.{with_carrier_at_end}
use Rattle.network_model.specs.Restarting.{last_of, restart_config, cut_from, with_link_carrier, with_carriers_from, replaced, restarted_in, restarted_as, restarted, box_at}
use Rattle.network_model.specs.Sound.{metric_at, ends_live_link, HaveLinkMetrics, AreAttached, IsShown, AreShown, IsFrameFrom, LinkAgrees, AllAgree, IsSoundState}
use Rattle.spb_world.proofs.BoxLemmas.{All-set}
use Rattle.network_model.proofs.BridgeLaws.{configured_is_sound, configured_has_no_carrier}
use Rattle.network_model.proofs.FitsLemmas.{link_there, near_is_port}
use Rattle.network_model.proofs.SoundLane.{some-is, IsStill}
use Rattle.spb_world.proofs.SoundLaneIds.{turned, near-turned, at_itself, at_parts, away, LeadsFrom, lane_leads}
use Rattle.network_model.proofs.SoundMoves.{IsCore}
use Rattle.network_model.proofs.SoundCarrier.{HaveCarrier, carriers_by}
use Rattle.network_model.proofs.SoundConfigured.{configured_still, configured_attached}
use Rattle.network_model.proofs.SoundEvents.{core_of, sound_from, core_with_carrier, with_carrier_world, carrier_stands, stepped_with_metric, stepped_attached}
use Rattle.network_model.proofs.CountedMoves.{is_within, shown_at}
use Rattle.network_model.proofs.RestartCut.{if_true, if_false, LeadsAway, leads_away, is_here, here_is, near_live, IsCutOff, AreCut, all_cut, Sound-cut_from, world-cut_from, uncut}
use Rattle.network_model.proofs.RestartConfig.{restart_whole, restart_has_metric}

-- ---- one item of a list is another

pub length-set : {X : Type 0} (xs : List X) (i : ℕ) (y : X) → length (slice_set xs i y) ≡ length xs
length-set [] i y = refl
length-set (x ∷ xs) zero y = refl
length-set (x ∷ xs) (suc i) y = ap suc (length-set xs i y)

pub got_set : {X : Type 0} (xs : List X) (i : ℕ) (y : X) (j : ℕ) (z : X) → slice_get (slice_set xs i y) j ≡ Some z → ((j ≡ i) × (y ≡ z)) ⊎ ((j ≢ i) × (slice_get xs j ≡ Some z))
got_set xs i y j z at =
    elim (cases_eq j i) [
      | inl here ↦
          let within : i < length xs = omega (arith, is_within (slice_set xs i y) j z at, length-set xs i y, here) in
          inl (here, some-is y z (sym (got_at xs i y within) ∙ (ap (slice_get (slice_set xs i y)) (sym here) ∙ at)))
      | inr apart ↦ inr (apart, sym (got_beside xs i j y (λ e. apart (sym e))) ∙ at)
    ]

-- ---- a port that keeps nobody

up_kept : (s : AdjState) (n : End) → kept_in s n ≡ None → is_up s ≡ false
up_kept Down n none = refl
up_kept Initializing n none = refl
up_kept Up n none = absurd cc

not_up : (v : BridgeView) (p : ℕ) → neighbour_at v p ≡ None → is_up_at v p ≡ false
unfolding neighbour_at is_up_at
not_up v p none = by (port_at v p) none
  where
    by : (o : Option BridgePort) → option_and_then (λ port. neighbour_of port.adjacency) o ≡ None → is_up_in o ≡ false
    by None none = refl
    by (Some port) none = up_kept port.adjacency.state (port.adjacency.neighbour, port.adjacency.circuit) none

-- ---- the box is replaced

-- the configuration is that of the declared bridge, after the life that it has
pub record IsConfigOf (s : State) (i : ℕ) (b : DeclaredBridge) (c : BridgeConfig) : Type 0 where
  pub whole : IsWhole c
  pub id : c.id ≡ b.bridge.id
  pub source : c.source ≡ b.bridge.source
  pub vids : c.vids ≡ s.world.vids
  pub ports : c.ports ≡ b.ports
  pub attached : c.attached ≡ attached_at s.world i
  pub last : c.last ≡ last_of (slice_get s.views i)

far-turned : (dir : Dir) (l : DeclaredLink) → far_end (turned dir) l ≡ near_end dir l
far-turned Ab l = refl
far-turned Ba l = refl

-- nothing is on its way, and nobody is kept
agrees_alone : (v : BridgeView) (p : ℕ) (w : BridgeView) (q : ℕ) (frames : List Frame) → frames ≡ [] → neighbour_at v p ≡ None → LinkAgrees v p w q frames
agrees_alone v p w q frames empty none = record {
  said = subst (AllByRecursion (IsFrameFrom v p w q)) (sym empty) tt;
  keeps = λ n kept. absurd (nobody n kept);
  ready = λ id up. absurd (true≢false (sym up ∙ not_up v p none));
}
  where
    nobody : (n : End) → neighbour_at v p ≡ Some n → ⊥
    nobody n kept = let no : None ≡ Some n = sym none ∙ kept in cc

pub Fits-replaced : (s : State) (i : ℕ) (b : DeclaredBridge) (c : BridgeConfig) (place : ℕ) → Fits s → slice_get (things_of s.world.bridges) i ≡ Some b → IsWhole c → c.ports ≡ b.ports → Fits (replaced s i c place)
Fits-replaced s i b c place fits there whole ports = record {
  bridges = length-set s.views i (configured c) ∙ fits.bridges;
  lanes = fits.lanes;
  ports = λ j v d at declared.
      elim (got_set s.views i (configured c) j v at) [
        | inl here ↦
            let same : b ≡ d = some-is b d (sym there ∙ (ap (slice_get (things_of s.world.bridges)) (sym here.0) ∙ declared)) in
            subst (λ (x : BridgeView). HasPorts x d) here.1 (record { ports = (configured_has_no_carrier c whole).ports ∙ (ports ∙ ap (λ (x : DeclaredBridge). x.ports) same) })
        | inr old ↦ fits.ports j v d old.1 declared
      ];
}

module _ (s : State) (i : ℕ) (b : DeclaredBridge) (c : BridgeConfig) (place : ℕ) (sound : IsSoundState s) (cut : AreCut s i) (there : slice_get (things_of s.world.bridges) i ≡ Some b) (config : IsConfigOf s i b c) where
  abbrev new : BridgeView
  new = configured c

  still : IsStill (bare c) new
  still = configured_still c

  abbrev views : List BridgeView
  views = slice_set s.views i new

  shown_replaced : AreShown s.world views
  shown_replaced j v d at declared =
      elim (got_set s.views i new j v at) [
        | inl here ↦
            let same : b ≡ d = some-is b d (sym there ∙ (ap (slice_get (things_of s.world.bridges)) (sym here.0) ∙ declared)) in
            subst (λ (x : BridgeView). IsShown s.world.vids d x) here.1 (record {
              id = still.id ∙ (config.id ∙ ap (λ (x : DeclaredBridge). x.bridge.id) same);
              source = still.source ∙ (config.source ∙ ap (λ (x : DeclaredBridge). x.bridge.source) same);
              vids = still.vids ∙ config.vids;
            })
        | inr old ↦ sound.shown j v d old.1 declared
      ]

  lonely : (p : ℕ) → neighbour_at new p ≡ None
  lonely p = (configured_has_no_carrier c config.whole).neighbour p

  agree_replaced : AllAgree (links_of s) views s.lanes
  agree_replaced k dir l v w at at_v at_w = by_near (got_set s.views i new (near_end dir l).bridge v at_v)
    where
      p : ℕ
      p = (near_end dir l).port

      q : ℕ
      q = (far_end dir l).port

      by_far : slice_get s.views (near_end dir l).bridge ≡ Some v → (((far_end dir l).bridge ≡ i) × (new ≡ w)) ⊎ (((far_end dir l).bridge ≢ i) × (slice_get s.views (far_end dir l).bridge ≡ Some w)) → LinkAgrees v p w q (lane_of s.lanes k dir)
      by_far was (inl here) =
          let off : IsCutOff s k (far_end (turned dir) l) = cut k l (turned dir) at (ap (λ (e : LinkEnd). e.bridge) (near-turned dir l) ∙ here.0) in
          let near : IsCutOff s k (near_end dir l) = subst (λ (e : LinkEnd). IsCutOff s k e) (far-turned dir l) off in
          agrees_alone v p w q (lane_of s.lanes k dir) (near.empty dir) (near.alone v was)
      by_far was (inr old) = sound.agree k dir l v w at was old.1

      by_near : (((near_end dir l).bridge ≡ i) × (new ≡ v)) ⊎ (((near_end dir l).bridge ≢ i) × (slice_get s.views (near_end dir l).bridge ≡ Some v)) → LinkAgrees v p w q (lane_of s.lanes k dir)
      by_near (inl here) =
          let off : IsCutOff s k (far_end dir l) = cut k l dir at here.0 in
          agrees_alone v p w q (lane_of s.lanes k dir) (off.empty dir) (ap (λ (x : BridgeView). neighbour_at x p) (sym here.1) ∙ lonely p)
      by_near (inr old) = by_far old.1 (got_set s.views i new (far_end dir l).bridge w at_w)

  pub core_replaced : IsCore (replaced s i c place)
  core_replaced = record {
    world = sound.world;
    distinct = record { bridges = sound.distinct.bridges; sources = sound.distinct.sources; links = sound.distinct.links };
    fits = Fits-replaced s i b c place sound.fits there config.whole config.ports;
    shown = shown_replaced;
    views = All-set IsSoundView s.views i new sound.views (configured_is_sound c config.whole);
    short = sound.short;
    idle = sound.idle;
    agree = agree_replaced;
  }

  -- the new bridge has carrier nowhere, and the others as before
  pub carriers_replaced : HaveCarrier views (λ j p. if j == i then false else ends_live_link (links_of s) j p)
  carriers_replaced j v p at port =
      elim (got_set s.views i new j v at) [
        | inl here ↦
            ap (λ (x : BridgeView). has_carrier_at x p) (sym here.1)
            ∙ ((configured_has_no_carrier c config.whole).carrier p
            ∙ sym (if_true (j == i) false (ends_live_link (links_of s) j p) (eq-eqb j i here.0)))
        | inr old ↦ sound.carriers j v p old.1 port ∙ sym (if_false (j == i) false (ends_live_link (links_of s) j p) (ne_eqb j i old.0))
      ]

  pub attached_replaced : AreAttached s.world views
  attached_replaced j v at =
      elim (got_set s.views i new j v at) [
        | inl here ↦ ap (λ (x : BridgeView). x.attached) (sym here.1) ∙ (configured_attached c ∙ (config.attached ∙ ap (attached_at s.world) (sym here.0)))
        | inr old ↦ sound.attached j v old.1
      ]

-- ---- it gets carrier

-- of the bridge at place i the links before place k that are up have given it carrier, and no other; other bridges have
-- it where a link that is up ends
pub record HaveCarrierTo (s : State) (i k : ℕ) : Type 0 where
  pub carriers : ℕ → ℕ → Bool
  pub have : HaveCarrier s.views carriers
  pub low : (j p : ℕ) → carriers j p ≡ true → ends_live_link (links_of s) j p ≡ true
  pub others : (j p : ℕ) → j ≢ i → carriers j p ≡ ends_live_link (links_of s) j p
  pub given : (m : ℕ) (l : DeclaredLink) (dir : Dir) → m < k → slice_get (links_of s) m ≡ Some l → l.live ≡ true → (near_end dir l).bridge ≡ i → carriers i (near_end dir l).port ≡ true

-- what is sound but for carrier
pub record IsSoundButCarrier (s : State) (i k : ℕ) : Type 0 where
  pub core : IsCore s
  pub metrics : HaveLinkMetrics (links_of s) s.views
  pub attached : AreAttached s.world s.views
  pub given : HaveCarrierTo s i k

end_given : (s : State) (i m : ℕ) (l : DeclaredLink) (dir : Dir) (given : HaveCarrierTo s i m) → (near_end dir l).bridge ≡ i → (e : LinkEnd) → e ≡ near_end dir l → (if is_at e i (near_end dir l).port then true else given.carriers i (near_end dir l).port) ≡ true
end_given s i m l dir given near e is = if_true (is_at e i (near_end dir l).port) true (given.carriers i (near_end dir l).port) (at_itself e i (near_end dir l).port (ap (λ (f : LinkEnd). f.bridge) is ∙ near) (ap (λ (f : LinkEnd). f.port) is))

more_given : (b was : Bool) → was ≡ true → (if b then true else was) ≡ true
more_given true was is = refl
more_given false was is = is

-- the link at place k, which is up, gives carrier
given_here : (s : State) (i k : ℕ) (l : DeclaredLink) → IsSoundButCarrier s i k → slice_get (links_of s) k ≡ Some l → ends_here l i ≡ true → ends_live_link (links_of s) (end_here l i).bridge (end_here l i).port ≡ true → l.a.bridge ≢ l.b.bridge → IsSoundButCarrier (with_carrier_at_end true s (end_here l i)) i (k + 1)
given_here s i k l part at here live apart = record {
  core = core_with_carrier true s e part.core;
  metrics = stepped_with_metric (comes.carrier e.port true) s e.bridge refl part.metrics;
  attached = stepped_attached (comes.carrier e.port true) s e.bridge refl part.attached;
  given = record {
    carriers = now;
    have = carrier_stands true s e part.given.carriers part.given.have;
    low = λ j p is. ap (λ (w : World). ends_live_link (things_of w.links) j p) world ∙ low j p (is_at e j p) refl is;
    others = λ j p other.
        if_false (is_at e j p) true (part.given.carriers j p) (away e j p (λ same. other (sym same ∙ place)))
        ∙ (part.given.others j p other ∙ sym (ap (λ (w : World). ends_live_link (things_of w.links) j p) world));
    given = λ m h dir below there is near. given m h dir below (ap (λ (w : World). slice_get (things_of w.links) m) (sym world) ∙ there) is near;
  };
}
  where
    e : LinkEnd
    e = end_here l i

    leads : LeadsAway l i
    leads = leads_away l i here

    now : ℕ → ℕ → Bool
    now j p = if is_at e j p then true else part.given.carriers j p

    world : (with_carrier_at_end true s e).world ≡ s.world
    world = with_carrier_world true s e

    place : e.bridge ≡ i
    place = ap (λ (f : LinkEnd). f.bridge) (here_is l i leads.dir apart leads.near) ∙ leads.near

    low : (j p : ℕ) (b : Bool) → is_at e j p ≡ b → (if b then true else part.given.carriers j p) ≡ true → ends_live_link (links_of s) j p ≡ true
    low j p true at_e is = let parts = at_parts e j p at_e in sym (λ x. ends_live_link (links_of s) (parts.0 x) (parts.1 x)) ∙ live
    low j p false at_e is = part.given.low j p is

    given : (m : ℕ) (h : DeclaredLink) (dir : Dir) → m < k + 1 → slice_get (links_of s) m ≡ Some h → h.live ≡ true → (near_end dir h).bridge ≡ i → now i (near_end dir h).port ≡ true
    given m h dir below there is near =
        elim (cases_eq m k) [
          | inl this ↦
              let same : l ≡ h = some-is l h (sym at ∙ (ap (slice_get (links_of s)) (sym this) ∙ there)) in
              let end : e ≡ near_end dir h = ap (λ (x : DeclaredLink). end_here x i) same ∙ here_is h i dir (subst (λ (x : DeclaredLink). x.a.bridge ≢ x.b.bridge) same apart) near in
              end_given s i k h dir part.given near e end
          | inr other ↦ more_given (is_at e i (near_end dir h).port) (part.given.carriers i (near_end dir h).port) (part.given.given m h dir (omega (arith, below, other)) there is near)
        ]

-- one that isn't up, or isn't a link of the bridge, gives none
given_not : (s : State) (i k : ℕ) (o : Option DeclaredLink) → IsSoundButCarrier s i k → slice_get (links_of s) k ≡ o → ((l : DeclaredLink) → o ≡ Some l → ends_here l i ≡ false) → IsSoundButCarrier s i (k + 1)
given_not s i k o part at none = record {
  core = part.core;
  metrics = part.metrics;
  attached = part.attached;
  given = record { carriers = part.given.carriers; have = part.given.have; low = part.given.low; others = part.given.others; given = given };
}
  where
    given : (m : ℕ) (h : DeclaredLink) (dir : Dir) → m < k + 1 → slice_get (links_of s) m ≡ Some h → h.live ≡ true → (near_end dir h).bridge ≡ i → part.given.carriers i (near_end dir h).port ≡ true
    given m h dir below there is near =
        elim (cases_eq m k) [
          | inl this ↦ absurd (true≢false (sym (is_here h i dir is near) ∙ none h (sym at ∙ (ap (slice_get (links_of s)) (sym this) ∙ there))))
          | inr other ↦ part.given.given m h dir (omega (arith, below, other)) there is near
        ]

-- the links that are up in a state
live_here : (s : State) (i k : ℕ) (l : DeclaredLink) → IsCore s → slice_get (links_of s) k ≡ Some l → ends_here l i ≡ true → ends_live_link (links_of s) (end_here l i).bridge (end_here l i).port ≡ true
live_here s i k l core at here =
    let leads = leads_away l i here in
    subst (λ (e : LinkEnd). ends_live_link (links_of s) e.bridge e.port ≡ true) (sym (here_is l i leads.dir (link_there s k l core.world at).apart leads.near)) (near_live s k l leads.dir true core.world at leads.live)

carrier_given_if : (s : State) (i k : ℕ) (l : DeclaredLink) (b : Bool) → ends_here l i ≡ b → IsSoundButCarrier s i k → slice_get (links_of s) k ≡ Some l → IsSoundButCarrier (if b then with_carrier_at_end true s (end_here l i) else s) i (k + 1)
carrier_given_if s i k l true here part at = given_here s i k l part at here (live_here s i k l part.core at here) (link_there s k l part.core.world at).apart
carrier_given_if s i k l false here part at = given_not s i k (Some l) part at (λ m is. ap (λ (x : DeclaredLink). ends_here x i) (sym (some-is l m is)) ∙ here)

given_link_to : (s : State) (i k : ℕ) (o : Option DeclaredLink) → IsSoundButCarrier s i k → slice_get (links_of s) k ≡ o → IsSoundButCarrier (with_link_carrier s i o) i (k + 1)
given_link_to s i k None part at = given_not s i k None part at (λ m is. absurd cc)
given_link_to s i k (Some l) part at = carrier_given_if s i k l (ends_here l i) refl part at

given_from_to : (n k i : ℕ) (s : State) → IsSoundButCarrier s i k → IsSoundButCarrier (with_carriers_from n k i s) i (k + n)
given_from_to zero k i s part = subst (IsSoundButCarrier s i) (omega arith) part
given_from_to (suc n) k i s part =
    let t : State = with_link_carrier s i (slice_get (links_of s) k) in
    subst (IsSoundButCarrier (with_carriers_from n (k + 1) i t) i) (omega arith) (given_from_to n (k + 1) i t (given_link_to s i k (slice_get (links_of s) k) part refl))

world_if : (s : State) (e : LinkEnd) (b : Bool) → (if b then with_carrier_at_end true s e else s).world ≡ s.world
world_if s e true = with_carrier_world true s e
world_if s e false = refl

world-with_link_carrier : (s : State) (i : ℕ) (o : Option DeclaredLink) → (with_link_carrier s i o).world ≡ s.world
world-with_link_carrier s i None = refl
world-with_link_carrier s i (Some l) = world_if s (end_here l i) (ends_here l i)

pub world-with_carriers_from : (n k i : ℕ) (s : State) → (with_carriers_from n k i s).world ≡ s.world
world-with_carriers_from zero k i s = refl
world-with_carriers_from (suc n) k i s = world-with_carriers_from n (k + 1) i (with_link_carrier s i (slice_get (links_of s) k)) ∙ world-with_link_carrier s i (slice_get (links_of s) k)

-- when all have given it carrier, it has it where a link that is up ends
both_ways : (b c : Bool) → (b ≡ true → c ≡ true) → (c ≡ true → b ≡ true) → b ≡ c
both_ways true c to from = sym (to refl)
both_ways false true to from = from refl
both_ways false false to from = refl

link_live : (links : List DeclaredLink) (k : ℕ) (l : DeclaredLink) → slice_get links k ≡ Some l → is_live links k ≡ true → l.live ≡ true
link_live [] k l at live = absurd cc
link_live (h ∷ links) zero l at live = let same : h ≡ l = cc in ap (λ (m : DeclaredLink). m.live) (sym same) ∙ live
link_live (h ∷ links) (suc k) l at live = link_live links k l at live

carriers_given : (s : State) (i k : ℕ) → IsSoundButCarrier s i k → length (links_of s) ≤ k → IsSoundState s
carriers_given s i k part all = sound_from s part.core (λ j v p at port. part.given.have j v p at port ∙ equal j p) part.metrics part.attached
  where
    by_lane : (p : ℕ) (o : Option LaneId) → lane_out (links_of s) i p ≡ o → carriers_by (links_of s) o ≡ true → part.given.carriers i p ≡ true
    by_lane p None out live = absurd (true≢false (sym live))
    by_lane p (Some lane) out live =
        let leads : LeadsFrom (links_of s) i p lane.link lane.dir = lane_leads (links_of s) i p lane out in
        subst (λ (q : ℕ). part.given.carriers i q ≡ true) leads.port
        (part.given.given lane.link leads.link lane.dir (omega (arith, is_within (links_of s) lane.link leads.link leads.there, all)) leads.there (link_live (links_of s) lane.link leads.link leads.there live) leads.bridge)

    equal : (j p : ℕ) → part.given.carriers j p ≡ ends_live_link (links_of s) j p
    equal j p =
        elim (cases_eq j i) [
          | inl here ↦
              both_ways (part.given.carriers j p) (ends_live_link (links_of s) j p) (part.given.low j p)
              (λ live. ap (λ (m : ℕ). part.given.carriers m p) here ∙ by_lane p (lane_out (links_of s) i p) refl (sym (ap (λ (m : ℕ). ends_live_link (links_of s) m p) here) ∙ live))
          | inr other ↦ part.given.others j p other
        ]

-- ---- the bridge restarts

-- an end of a link is a port of its bridge
near_declared : (u : State) (m : ℕ) (h : DeclaredLink) (d : Dir) (c : DeclaredBridge) → IsSoundState u → slice_get (links_of u) m ≡ Some h → slice_get (things_of u.world.bridges) (near_end d h).bridge ≡ Some c → (1 ≤ (near_end d h).port) × ((near_end d h).port ≤ c.ports)
near_declared u m h d c sound_u at_h at_c =
    let view = shown_at u (near_end d h).bridge c (core_of u sound_u) at_c in
    let port : IsPort view.0 (near_end d h).port = near_is_port u m h d sound_u.world sound_u.fits at_h view.0 view.1 in
    let ports : HasPorts view.0 c = sound_u.fits.ports (near_end d h).bridge view.0 c view.1 at_c in
    (port.low, subst (λ (n : ℕ). (near_end d h).port ≤ n) ports.ports port.high)

-- the metrics of the others stay
restarted_metrics : (s t : State) (i : ℕ) (b : DeclaredBridge) → IsSoundState s → IsSoundState t → t.world ≡ s.world → slice_get (things_of s.world.bridges) i ≡ Some b → HaveLinkMetrics (links_of t) (slice_set t.views i (configured (restart_config s i b)))
restarted_metrics s t i b sound after world there k dir l v at at_v =
    elim (got_set t.views i (configured (restart_config s i b)) (near_end dir l).bridge v at_v) [
      | inl here ↦ ap (λ (x : BridgeView). metric_at x (near_end dir l).port) (sym here.1) ∙ ours here.0
      | inr old ↦ after.metrics k dir l v at old.1
    ]
  where
    before : slice_get (links_of s) k ≡ Some l
    before = ap (λ (w : World). slice_get (things_of w.links) k) (sym world) ∙ at

    ours : (near_end dir l).bridge ≡ i → metric_at (configured (restart_config s i b)) (near_end dir l).port ≡ Some (near_end dir l).metric
    ours here =
        let declared : slice_get (things_of s.world.bridges) (near_end dir l).bridge ≡ Some b = ap (slice_get (things_of s.world.bridges)) here ∙ there in
        let port = near_declared s k l dir b sound before declared in
        subst (λ (m : ℕ). metric_at (configured (restart_config s m b)) (near_end dir l).port ≡ Some (near_end dir l).metric) here
        (restart_has_metric s b k l dir sound declared before port.0 port.1)

pub config_is : (s t : State) (i : ℕ) (b : DeclaredBridge) → IsSoundState s → t.world ≡ s.world → slice_get t.views i ≡ slice_get s.views i → slice_get (things_of s.world.bridges) i ≡ Some b → IsConfigOf t i b (restart_config s i b)
config_is s t i b sound world view there = record {
  whole = restart_whole s i b sound there;
  id = refl;
  source = refl;
  vids = ap (λ (w : World). w.vids) (sym world);
  ports = refl;
  attached = ap (λ (w : World). attached_at w i) (sym world);
  last = ap last_of (sym view);
}

given_before : (x y : Bool) → (if x then false else y) ≡ true → y ≡ true
given_before true y is = absurd (true≢false (sym is))
given_before false y is = is

pub Sound-restarted_in : (s : State) (i : ℕ) (b : DeclaredBridge) (place : ℕ) → IsSoundState s → slice_get (things_of s.world.bridges) i ≡ Some b → IsSoundState (restarted_in s i (restart_config s i b) place)
Sound-restarted_in s i b place sound there =
    carriers_given (with_carriers_from n 0 i u) i (0 + n) (given_from_to n 0 i u part) (omega (arith, same))
  where
    n : ℕ
    n = length (links_of s)

    t : State
    t = cut_from n 0 i s

    u : State
    u = replaced t i (restart_config s i b) place

    world : t.world ≡ s.world
    world = world-cut_from n 0 i s

    after : IsSoundState t
    after = Sound-cut_from n 0 i s sound

    config : IsConfigOf t i b (restart_config s i b)
    config = config_is s t i b sound world (uncut n 0 i s sound.world) there

    here : slice_get (things_of t.world.bridges) i ≡ Some b
    here = ap (λ (w : World). slice_get (things_of w.bridges) i) world ∙ there

    same : length (links_of (with_carriers_from n 0 i u)) ≡ n
    same = ap (λ (w : World). length (things_of w.links)) (world-with_carriers_from n 0 i u ∙ world)

    part : IsSoundButCarrier u i 0
    part = record {
      core = core_replaced t i b (restart_config s i b) place after (all_cut s i sound) here config;
      metrics = restarted_metrics s t i b sound after world there;
      attached = attached_replaced t i b (restart_config s i b) place after (all_cut s i sound) here config;
      given = record {
        carriers = λ j p. if j == i then false else ends_live_link (links_of t) j p;
        have = carriers_replaced t i b (restart_config s i b) place after (all_cut s i sound) here config;
        low = λ j p is. given_before (j == i) (ends_live_link (links_of t) j p) is;
        others = λ j p other. if_false (j == i) false (ends_live_link (links_of t) j p) (ne_eqb j i other);
        given = λ m l dir below at live near. absurd (omega (arith, below));
      };
    }

restarted_by : (s : State) (i : ℕ) (o : Option DeclaredBridge) (box : Option ℕ) → slice_get (things_of s.world.bridges) i ≡ o → IsSoundState s → IsSoundState (restarted_as s i o box)
restarted_by s i None box there sound = sound
restarted_by s i (Some b) None there sound = sound
restarted_by s i (Some b) (Some place) there sound = Sound-restarted_in s i b place sound there

pub Sound-restarted : (s : State) (i : ℕ) → IsSoundState s → IsSoundState (restarted s i)
unfolding restarted
Sound-restarted s i sound = restarted_by s i (slice_get (things_of s.world.bridges) i) (box_at s i) refl sound
