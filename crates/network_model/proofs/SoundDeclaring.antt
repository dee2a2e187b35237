-- Declarations keep what is sound of a network.
use Rattle.std.proofs.Common.{◌≡◌, ◌≢◌, ◌≤◌, map, ◌⊎◌, inl, inr, ◌<◌, ◌+◌, ℕ, zero, suc, Bool, true, false, true≢false, List, [], ◌∷◌, ◌++◌, length, refl, sym, ap, ◌∙◌, subst, Option, Some, None, slice_get, arith}
use Rattle.std.specs.Prelude.{◌||◌, ◌==◌, if◌then◌else◌}
use Rattle.std.specs.Option.{option_or}
use Rattle.std.specs.List.{AllByRecursion, filter_map, cons_option}
use Rattle.std.proofs.lemmas.Bool.{ne_eqb}
use Rattle.std.proofs.lemmas.List.{length-map}
use Rattle.spb_types.specs.declared.service.VidPlan.{VidPlan}
use Rattle.link_model.specs.Lane.{Frame}
use Rattle.spb_types.specs.declared.link.Dir.{Dir}
use Rattle.spb_types.specs.declared.link.Dir.TheVariants.{Ab, Ba}
use Rattle.bridge_api.specs.View.{BridgeView, IsPort, neighbour_at, is_up_at, has_carrier_at}
use Rattle.bridge_api.specs.Config.{ArePairwise}
use Rattle.bridge_api.specs.Laws.{IsSoundView}
use Rattle.spb_world.specs.declared.declaration.DeclaredBridge.{DeclaredBridge}
use Rattle.spb_world.specs.declared.declaration.DeclaredLink.{DeclaredLink}
use Rattle.link_model.specs.declared.lanes.LinkLanes.{LinkLanes}
use Rattle.link_model.specs.declared.lanes.LaneId.{LaneId}
use Rattle.spb_world.specs.World.{World, Bridges, Links, Attachments, names_of, things_of, attachment_at, attached_at, is_at_port, IsLink, AreApart, IsAttachedIn, Sound, AreDistinct}
use Rattle.link_model.specs.Lanes.{no_frames, lane_of}
use Rattle.spb_world.specs.Declaring.{with_vid, with_bridge, with_link}
use Rattle.network_model.specs.State.{State, Spare, links_of, HasPorts, Fits}
use Rattle.spb_world.specs.Links.{is_live, near_end, far_end, is_at, lane_of_link, lane_out_from, lane_out}
use Rattle.network_model.specs.Sound.{IsShown, AreShown, AreAttached, ends_live_link, HaveCarrierOfLinks, LinkAgrees, AllAgree, IsSoundState}
use Rattle.spb_world.proofs.BoxLemmas.{All-get}
use Rattle.spb_world.proofs.ListLemmas.{All-push, things_of-push, length-push}
use Rattle.spb_world.proofs.WorldLemmas.{IsNewBridge, Sound-with_bridge, IsNewLink, Sound-with_link}
use Rattle.network_model.proofs.FitsLemmas.{end_is_port, link_there}
use Rattle.network_model.proofs.SoundLaws.{without_carrier}
use Rattle.network_model.proofs.SoundLane.{some-is}
use Rattle.spb_world.proofs.SoundLaneIds.{at_itself, lane_of_end, LeadsFrom, lane_leads}
use Rattle.network_model.proofs.SoundMoves.{IsCore}
use Rattle.network_model.proofs.SoundCarrier.{carriers_by}

-- ---- the last item of a list

pub got_push : {X : Type 0} (xs : List X) (y : X) (i : ℕ) (z : X) → slice_get (xs ++ y ∷ []) i ≡ Some z → ((i < length xs) × (slice_get xs i ≡ Some z)) ⊎ ((i ≡ length xs) × (y ≡ z))
got_push [] y zero z at = inr (refl, some-is y z at)
got_push [] y (suc i) z at = absurd cc
got_push (x ∷ xs) y zero z at = inl (omega arith, at)
got_push (x ∷ xs) y (suc i) z at =
    elim (got_push xs y i z at) [
      | inl old ↦ inl (omega (arith, old.0), old.1)
      | inr new ↦ inr (omega (arith, new.0), new.1)
    ]

length-things : {T : Type 0} (xs : List (List ℕ × T)) → length (things_of xs) ≡ length xs
length-things xs = length-map xs (λ e. e.1)

-- ---- a bridge more

-- the bridge is the new one: sound by itself, as it was declared, and without carrier
pub record IsNewView (w : World) (b : DeclaredBridge) (v : BridgeView) : Type 0 where
  pub shown : IsShown w.vids b v
  pub attached : v.attached ≡ []
  pub ports : HasPorts v b
  pub sound : IsSoundView v
  pub no_carrier : (p : ℕ) → has_carrier_at v p ≡ false

fits_bridge : (s : State) (rack : List Spare) (ticks : List ℕ) (name : List ℕ) (b : DeclaredBridge) (v : BridgeView) → Fits s → HasPorts v b → Fits (record s { rack = rack; world = with_bridge s.world name b; views = s.views ++ v ∷ []; ticks = ticks })
unfolding with_bridge
fits_bridge s rack ticks name b v fits ports = record {
  bridges = omega (arith, length-push s.views v, length-push s.world.bridges (name, b), fits.bridges);
  lanes = fits.lanes;
  ports = λ i u c at declared. each i u c (got_push s.views v i u at) (got_push (things_of s.world.bridges) b i c (sym (ap (λ bs. slice_get bs i) (things_of-push s.world.bridges name b)) ∙ declared));
}
  where
    each : (i : ℕ) (u : BridgeView) (c : DeclaredBridge) → ((i < length s.views) × (slice_get s.views i ≡ Some u)) ⊎ ((i ≡ length s.views) × (v ≡ u)) → ((i < length (things_of s.world.bridges)) × (slice_get (things_of s.world.bridges) i ≡ Some c)) ⊎ ((i ≡ length (things_of s.world.bridges)) × (b ≡ c)) → HasPorts u c
    each i u c (inl old) (inl was) = fits.ports i u c old.1 was.1
    each i u c (inl old) (inr is) = absurd (omega (arith, old.0, is.0, length-things s.world.bridges, fits.bridges))
    each i u c (inr new) (inl was) = absurd (omega (arith, new.0, was.0, length-things s.world.bridges, fits.bridges))
    each i u c (inr new) (inr is) = subst (λ (d : DeclaredBridge). HasPorts u d) is.1 (subst (λ (x : BridgeView). HasPorts x b) new.1 ports)

shown_bridge : (s : State) (name : List ℕ) (b : DeclaredBridge) (v : BridgeView) → Fits s → AreShown s.world s.views → IsShown s.world.vids b v → AreShown (with_bridge s.world name b) (s.views ++ v ∷ [])
unfolding with_bridge
shown_bridge s name b v fits shown new i u c at declared =
    each (got_push s.views v i u at) (got_push (things_of s.world.bridges) b i c (sym (ap (λ bs. slice_get bs i) (things_of-push s.world.bridges name b)) ∙ declared))
  where
    each : ((i < length s.views) × (slice_get s.views i ≡ Some u)) ⊎ ((i ≡ length s.views) × (v ≡ u)) → ((i < length (things_of s.world.bridges)) × (slice_get (things_of s.world.bridges) i ≡ Some c)) ⊎ ((i ≡ length (things_of s.world.bridges)) × (b ≡ c)) → IsShown s.world.vids c u
    each (inl old) (inl was) = shown i u c old.1 was.1
    each (inl old) (inr is) = absurd (omega (arith, old.0, is.0, length-things s.world.bridges, fits.bridges))
    each (inr fresh) (inl was) = absurd (omega (arith, fresh.0, was.0, length-things s.world.bridges, fits.bridges))
    each (inr fresh) (inr is) = subst (λ (d : DeclaredBridge). IsShown s.world.vids d u) is.1 (subst (λ (x : BridgeView). IsShown s.world.vids b x) fresh.1 new)

-- nothing is attached where no bridge is
attached_past : (w : World) (i : ℕ) → Sound w → i ≡ length w.bridges → [] ≡ attached_at w i
attached_past w i sound past = past_in w.attached sound.attached
  where
    past_in : (xs : Attachments) → AllByRecursion (IsAttachedIn w.bridges w.services) xs → [] ≡ filter_map (attachment_at i) xs
    past_in [] all = refl
    past_in (x ∷ xs) all = at (x.0 == i) (ne_eqb x.0 i (λ e. absurd (omega (arith, e, past, all.0.bridge)))) (past_in xs all.1)
      where
        at : (b : Bool) → b ≡ false → [] ≡ filter_map (attachment_at i) xs → [] ≡ cons_option (if b then Some x.1 else None) (filter_map (attachment_at i) xs)
        at true other rest = absurd (true≢false other)
        at false other rest = rest

attached_bridge : (s : State) (name : List ℕ) (b : DeclaredBridge) (v : BridgeView) → Sound s.world → Fits s → AreAttached s.world s.views → v.attached ≡ [] → AreAttached (with_bridge s.world name b) (s.views ++ v ∷ [])
unfolding with_bridge
attached_bridge s name b v sound fits attached none i u at =
    elim (got_push s.views v i u at) [
      | inl old ↦ attached i u old.1
      | inr new ↦ ap (λ (x : BridgeView). x.attached) (sym new.1) ∙ (none ∙ attached_past s.world i sound (new.0 ∙ fits.bridges))
    ]

-- an end of a link lies at a bridge that is there
near_within : (s : State) (k : ℕ) (dir : Dir) (l : DeclaredLink) → Sound s.world → Fits s → slice_get (links_of s) k ≡ Some l → (near_end dir l).bridge < length s.views
near_within s k Ab l sound fits at = omega (arith, (link_there s k l sound at).a.bridge, fits.bridges)
near_within s k Ba l sound fits at = omega (arith, (link_there s k l sound at).b.bridge, fits.bridges)

far_within : (s : State) (k : ℕ) (dir : Dir) (l : DeclaredLink) → Sound s.world → Fits s → slice_get (links_of s) k ≡ Some l → (far_end dir l).bridge < length s.views
far_within s k Ab l sound fits at = omega (arith, (link_there s k l sound at).b.bridge, fits.bridges)
far_within s k Ba l sound fits at = omega (arith, (link_there s k l sound at).a.bridge, fits.bridges)

no_carrier_out : (s : State) (p : ℕ) (o : Option LaneId) → Sound s.world → Fits s → lane_out (links_of s) (length s.views) p ≡ o → false ≡ carriers_by (links_of s) o
no_carrier_out s p None sound fits out = refl
no_carrier_out s p (Some lane) sound fits out =
    let leads : LeadsFrom (links_of s) (length s.views) p lane.link lane.dir = lane_leads (links_of s) (length s.views) p lane out in
    absurd (omega (arith, near_within s lane.link lane.dir leads.link sound fits leads.there, leads.bridge))

carriers_bridge : (s : State) (v : BridgeView) → Sound s.world → Fits s → HaveCarrierOfLinks (links_of s) s.views → ((p : ℕ) → has_carrier_at v p ≡ false) → HaveCarrierOfLinks (links_of s) (s.views ++ v ∷ [])
carriers_bridge s v sound fits carriers none i u p at port =
    elim (got_push s.views v i u at) [
      | inl old ↦ carriers i u p old.1 port
      | inr new ↦ ap (λ (x : BridgeView). has_carrier_at x p) (sym new.1) ∙ (none p ∙ (no_carrier_out s p (lane_out (links_of s) (length s.views) p) sound fits refl ∙ ap (λ (j : ℕ). ends_live_link (links_of s) j p) (sym new.0)))
    ]

-- what is there within the old bridges
old_view : (views : List BridgeView) (v : BridgeView) (i : ℕ) (u : BridgeView) → i < length views → slice_get (views ++ v ∷ []) i ≡ Some u → slice_get views i ≡ Some u
old_view views v i u within at =
    elim (got_push views v i u at) [
      | inl old ↦ old.1
      | inr new ↦ absurd (omega (arith, new.0))
    ]

agree_bridge : (s : State) (v : BridgeView) → Sound s.world → Fits s → AllAgree (links_of s) s.views s.lanes → AllAgree (links_of s) (s.views ++ v ∷ []) s.lanes
agree_bridge s v sound fits agree k dir l u w at at_u at_w =
    agree k dir l u w at (old_view s.views v (near_end dir l).bridge u (near_within s k dir l sound fits at) at_u) (old_view s.views v (far_end dir l).bridge w (far_within s k dir l sound fits at) at_w)

pub Sound-new_bridge : (s : State) (rack : List Spare) (ticks : List ℕ) (name : List ℕ) (b : DeclaredBridge) (v : BridgeView) → IsSoundState s → IsNewBridge s.world b → AreDistinct (with_bridge s.world name b) → IsNewView s.world b v → IsSoundState (record s { rack = rack; world = with_bridge s.world name b; views = s.views ++ v ∷ []; ticks = ticks })
unfolding with_bridge
Sound-new_bridge s rack ticks name b v sound declared distinct new = record {
  world = Sound-with_bridge s.world name b sound.world declared;
  distinct = distinct;
  fits = fits_bridge s rack ticks name b v sound.fits new.ports;
  shown = shown_bridge s name b v sound.fits sound.shown new.shown;
  views = All-push IsSoundView s.views v sound.views new.sound;
  carriers = carriers_bridge s v sound.world sound.fits sound.carriers new.no_carrier;
  metrics = λ k dir l u at at_u. sound.metrics k dir l u at (old_view s.views v (near_end dir l).bridge u (near_within s k dir l sound.world sound.fits at) at_u);
  attached = attached_bridge s name b v sound.world sound.fits sound.attached new.attached;
  short = sound.short;
  idle = sound.idle;
  agree = agree_bridge s v sound.world sound.fits sound.agree;
}

-- ---- a link more, which isn't up

live-push : (links : List DeclaredLink) (l : DeclaredLink) (k : ℕ) → l.live ≡ false → is_live (links ++ l ∷ []) k ≡ is_live links k
live-push [] l zero dead = dead
live-push [] l (suc k) dead = refl
live-push (h ∷ links) l zero dead = refl
live-push (h ∷ links) l (suc k) dead = live-push links l k dead

no_lane : (dir : Dir) (k : ℕ) → lane_of (no_frames ∷ []) k dir ≡ []
no_lane Ab zero = refl
no_lane Ba zero = refl
no_lane dir (suc k) = refl

pub lane-push : (lanes : List LinkLanes) (k : ℕ) (dir : Dir) → lane_of (lanes ++ no_frames ∷ []) k dir ≡ lane_of lanes k dir
lane-push [] k dir = no_lane dir k
lane-push (x ∷ lanes) zero dir = refl
lane-push (x ∷ lanes) (suc k) dir = lane-push lanes k dir

fits_link : (s : State) (name : List ℕ) (l : DeclaredLink) → Fits s → Fits (record s { world = with_link s.world name l; lanes = s.lanes ++ no_frames ∷ [] })
unfolding with_link
fits_link s name l fits = record {
  bridges = fits.bridges;
  lanes = omega (arith, length-push s.lanes no_frames, length-push s.world.links (name, l), fits.lanes);
  ports = fits.ports;
}

out-push_by : (o rest more : Option LaneId) (lane : LaneId) → (rest ≡ Some lane → more ≡ Some lane) → option_or o rest ≡ Some lane → option_or o more ≡ Some lane
out-push_by (Some w) rest more lane later out = out
out-push_by None rest more lane later out = later out

out-push_from : (n : ℕ) (links : List DeclaredLink) (l : DeclaredLink) (i p : ℕ) (lane : LaneId) → lane_out_from n links i p ≡ Some lane → lane_out_from n (links ++ l ∷ []) i p ≡ Some lane
out-push_from n [] l i p lane out = absurd cc
out-push_from n (h ∷ links) l i p lane out = out-push_by (lane_of_link n h i p) (lane_out_from (n + 1) links i p) (lane_out_from (n + 1) (links ++ l ∷ []) i p) lane (out-push_from (n + 1) links l i p lane) out

out-push : (links : List DeclaredLink) (l : DeclaredLink) (i p : ℕ) (lane : LaneId) → lane_out links i p ≡ Some lane → lane_out (links ++ l ∷ []) i p ≡ Some lane
unfolding lane_out
out-push links l i p lane out = out-push_from 0 links l i p lane out

past_dead : (links : List DeclaredLink) → is_live links (length links) ≡ false
past_dead [] = refl
past_dead (h ∷ links) = past_dead links

-- a link that isn't up gives no port carrier
no_carrier_lane : (s : State) (l : DeclaredLink) (i p : ℕ) (o : Option LaneId) → Sound s.world → l.live ≡ false → lane_out (links_of s) i p ≡ None → lane_out (links_of s ++ l ∷ []) i p ≡ o → false ≡ carriers_by (links_of s ++ l ∷ []) o
no_carrier_lane s l i p None sound dead none out = refl
no_carrier_lane s l i p (Some lane) sound dead none out = by (got_push (links_of s) l lane.link leads.link leads.there)
  where
    leads : LeadsFrom (links_of s ++ l ∷ []) i p lane.link lane.dir
    leads = lane_leads (links_of s ++ l ∷ []) i p lane out

    by : ((lane.link < length (links_of s)) × (slice_get (links_of s) lane.link ≡ Some leads.link)) ⊎ ((lane.link ≡ length (links_of s)) × (l ≡ leads.link)) → false ≡ is_live (links_of s ++ l ∷ []) lane.link
    by (inl old) =
        let there : lane_out (links_of s) (near_end lane.dir leads.link).bridge (near_end lane.dir leads.link).port ≡ Some (record { link = lane.link; dir = lane.dir }) =
        lane_of_end (links_of s) lane.link leads.link lane.dir sound.links_apart (link_there s lane.link leads.link sound old.1).apart old.1 in
        let here : lane_out (links_of s) i p ≡ Some (record { link = lane.link; dir = lane.dir }) = sym (λ j. lane_out (links_of s) (leads.bridge j) (leads.port j)) ∙ there in
        absurd cc
    by (inr new) = sym (live-push (links_of s) l lane.link dead ∙ (ap (is_live (links_of s)) new.0 ∙ past_dead (links_of s)))

carriers_link_by : (s : State) (l : DeclaredLink) (i p : ℕ) (o : Option LaneId) → Sound s.world → l.live ≡ false → lane_out (links_of s) i p ≡ o → carriers_by (links_of s) o ≡ ends_live_link (links_of s ++ l ∷ []) i p
carriers_link_by s l i p None sound dead out = no_carrier_lane s l i p (lane_out (links_of s ++ l ∷ []) i p) sound dead out refl
carriers_link_by s l i p (Some lane) sound dead out = sym (live-push (links_of s) l lane.link dead) ∙ ap (carriers_by (links_of s ++ l ∷ [])) (sym (out-push (links_of s) l i p lane out))

carriers_link : (s : State) (l : DeclaredLink) → Sound s.world → l.live ≡ false → HaveCarrierOfLinks (links_of s) s.views → HaveCarrierOfLinks (links_of s ++ l ∷ []) s.views
carriers_link s l sound dead carriers i v p at port = carriers i v p at port ∙ carriers_link_by s l i p (lane_out (links_of s) i p) sound dead refl

-- no link ends at an end of the new one
or-true : (b : Bool) → (b || true) ≡ true
or-true true = refl
or-true false = refl

pub at_end : (dir : Dir) (m : DeclaredLink) (i p : ℕ) → (near_end dir m).bridge ≡ i → (near_end dir m).port ≡ p → is_at_port m i p ≡ true
at_end Ab m i p bridge port = ap (λ (b : Bool). b || is_at m.b i p) (at_itself m.a i p bridge port)
at_end Ba m i p bridge port = ap (λ (b : Bool). is_at m.a i p || b) (at_itself m.b i p bridge port) ∙ or-true (is_at m.a i p)

apart_end : (dir : Dir) (m l : DeclaredLink) → AreApart m l → is_at_port m (near_end dir l).bridge (near_end dir l).port ≡ false
apart_end Ab m l apart = apart.port_a
apart_end Ba m l apart = apart.port_b

free_end : (links : List DeclaredLink) (dir : Dir) (l : DeclaredLink) (o : Option LaneId) → AllByRecursion (λ m. AreApart m l) links → lane_out links (near_end dir l).bridge (near_end dir l).port ≡ o → carriers_by links o ≡ false
free_end links dir l None apart out = refl
free_end links dir l (Some lane) apart out =
    let leads : LeadsFrom links (near_end dir l).bridge (near_end dir l).port lane.link lane.dir = lane_leads links (near_end dir l).bridge (near_end dir l).port lane out in
    let two : AreApart leads.link l = All-get (λ m. AreApart m l) links lane.link leads.link apart leads.there in
    absurd (true≢false (sym (at_end lane.dir leads.link (near_end dir l).bridge (near_end dir l).port leads.bridge leads.port) ∙ apart_end dir leads.link l two))

near_port : (s : State) (dir : Dir) (l : DeclaredLink) (v : BridgeView) → Fits s → IsLink s.world.bridges l → slice_get s.views (near_end dir l).bridge ≡ Some v → IsPort v (near_end dir l).port
near_port s Ab l v fits link at = end_is_port s l.a fits link.a v at
near_port s Ba l v fits link at = end_is_port s l.b fits link.b v at

-- the new link, over which nothing is on its way, between ports without carrier
new_agrees : (s : State) (dir : Dir) (l : DeclaredLink) (v w : BridgeView) → IsSoundState s → IsNewLink s.world l → slice_get s.views (near_end dir l).bridge ≡ Some v → LinkAgrees v (near_end dir l).port w (far_end dir l).port []
new_agrees s dir l v w sound new at =
    let none : has_carrier_at v (near_end dir l).port ≡ false =
    sound.carriers (near_end dir l).bridge v (near_end dir l).port at (near_port s dir l v sound.fits new.link at) ∙ free_end (links_of s) dir l (lane_out (links_of s) (near_end dir l).bridge (near_end dir l).port) new.apart refl in
    let is = without_carrier v (near_end dir l).port (All-get IsSoundView s.views (near_end dir l).bridge v sound.views at) none in
    let nobody : neighbour_at v (near_end dir l).port ≡ None = is.0 in
    let not_up : is_up_at v (near_end dir l).port ≡ false = is.1 in
    record {
      said = tt;
      keeps = λ n kept. absurd cc;
      ready = λ id up. absurd (true≢false (sym up ∙ not_up));
    }

agree_link : (s : State) (l : DeclaredLink) → IsSoundState s → IsNewLink s.world l → AllAgree (links_of s ++ l ∷ []) s.views (s.lanes ++ no_frames ∷ [])
agree_link s l sound new k dir m v w at at_v at_w =
    subst (LinkAgrees v (near_end dir m).port w (far_end dir m).port) (sym (lane-push s.lanes k dir)) (by (got_push (links_of s) l k m at))
  where
    by : ((k < length (links_of s)) × (slice_get (links_of s) k ≡ Some m)) ⊎ ((k ≡ length (links_of s)) × (l ≡ m)) → LinkAgrees v (near_end dir m).port w (far_end dir m).port (lane_of s.lanes k dir)
    by (inl old) = sound.agree k dir m v w old.1 at_v at_w
    by (inr is) =
        let empty : lane_of s.lanes k dir ≡ [] = sound.idle k dir (ap (is_live (links_of s)) is.0 ∙ past_dead (links_of s)) in
        let at_near : slice_get s.views (near_end dir l).bridge ≡ Some v = ap (λ (h : DeclaredLink). slice_get s.views (near_end dir h).bridge) is.1 ∙ at_v in
        subst (LinkAgrees v (near_end dir m).port w (far_end dir m).port) (sym empty)
        (subst (λ (h : DeclaredLink). LinkAgrees v (near_end dir h).port w (far_end dir h).port []) is.1 (new_agrees s dir l v w sound new at_near))

-- all that is sound, but that its ends have their metrics
pub carriers_new_link : (s : State) (name : List ℕ) (l : DeclaredLink) → IsSoundState s → l.live ≡ false → HaveCarrierOfLinks (things_of (with_link s.world name l).links) s.views
unfolding with_link
carriers_new_link s name l sound dead = subst (λ (links : List DeclaredLink). HaveCarrierOfLinks links s.views) (sym (things_of-push s.world.links name l)) (carriers_link s l sound.world dead sound.carriers)

pub core_new_link : (s : State) (name : List ℕ) (l : DeclaredLink) → IsSoundState s → IsNewLink s.world l → AreDistinct (with_link s.world name l) → l.live ≡ false → IsCore (record s { world = with_link s.world name l; lanes = s.lanes ++ no_frames ∷ [] })
unfolding with_link
core_new_link s name l sound new distinct dead = record {
  world = Sound-with_link s.world name l sound.world new;
  distinct = distinct;
  fits = fits_link s name l sound.fits;
  shown = sound.shown;
  views = sound.views;
  short = λ k dir. subst (λ (fs : List Frame). length fs ≤ 1024) (sym (lane-push s.lanes k dir)) (sound.short k dir);
  idle = λ k dir down. lane-push s.lanes k dir ∙ sound.idle k dir (sym (live-push (links_of s) l k dead) ∙ (ap (λ (links : List DeclaredLink). is_live links k) (sym (things_of-push s.world.links name l)) ∙ down));
  agree = subst (λ (links : List DeclaredLink). AllAgree links s.views (s.lanes ++ no_frames ∷ [])) (sym (things_of-push s.world.links name l)) (agree_link s l sound new);
}

-- ---- a VID more, before any bridge

none_within : {X : Type 0} (xs : List X) (i : ℕ) (x : X) → xs ≡ [] → slice_get xs i ≡ Some x → ⊥
none_within [] i x none at = cc
none_within (y ∷ ys) i x none at = cc

pub empty_from : {X : Type 0} (xs : List X) → length xs ≡ 0 → xs ≡ []
empty_from [] e = refl
empty_from (x ∷ xs) e = absurd (omega arith)

pub Sound-new_vid : (s : State) (plan : VidPlan) → IsSoundState s → s.world.bridges ≡ [] → Sound (with_vid s.world plan) → IsSoundState (record s { world = with_vid s.world plan })
unfolding with_vid
Sound-new_vid s plan sound none world =
    let no_views : s.views ≡ [] = empty_from s.views (sound.fits.bridges ∙ ap length none) in
    record {
      world = world;
      distinct = record { bridges = sound.distinct.bridges; sources = sound.distinct.sources; links = sound.distinct.links };
      fits = record { bridges = sound.fits.bridges; lanes = sound.fits.lanes; ports = sound.fits.ports };
      shown = λ i v b at declared. absurd (none_within s.views i v no_views at);
      views = sound.views;
      carriers = sound.carriers;
      metrics = sound.metrics;
      attached = sound.attached;
      short = sound.short;
      idle = sound.idle;
      agree = sound.agree;
    }

-- ---- nothing is declared yet

pub Sound-nothing : (s : State) → Sound s.world → s.world.bridges ≡ [] → s.world.links ≡ [] → s.views ≡ [] → s.lanes ≡ [] → IsSoundState s
Sound-nothing s world bridges links views lanes =
    let no_lane : (k : ℕ) (dir : Dir) → lane_of s.lanes k dir ≡ [] = λ k dir. ap (λ (ls : List LinkLanes). lane_of ls k dir) lanes in
    record {
      world = world;
      distinct = record { bridges = subst (λ (bs : Bridges). ArePairwise (λ x y. x ≢ y) (names_of bs)) (sym bridges) tt; sources = subst (λ (bs : Bridges). ArePairwise (λ x y. x ≢ y) (map (λ b. b.bridge.source.value) (things_of bs))) (sym bridges) tt; links = subst (λ (ls : Links). ArePairwise (λ x y. x ≢ y) (names_of ls)) (sym links) tt };
      fits = record { bridges = ap length views ∙ sym (ap length bridges); lanes = ap length lanes ∙ sym (ap length links); ports = λ i v b at declared. absurd (none_within s.views i v views at) };
      shown = λ i v b at declared. absurd (none_within s.views i v views at);
      views = subst (λ (vs : List BridgeView). AllByRecursion IsSoundView vs) (sym views) tt;
      carriers = λ i v p at port. absurd (none_within s.views i v views at);
      metrics = λ k dir l v at at_v. absurd (none_within s.views (near_end dir l).bridge v views at_v);
      attached = λ i v at. absurd (none_within s.views i v views at);
      short = λ k dir. subst (λ (fs : List Frame). length fs ≤ 1024) (sym (no_lane k dir)) (omega arith);
      idle = λ k dir dead. no_lane k dir;
      agree = λ k dir l v w at at_v at_w. absurd (none_within s.views (near_end dir l).bridge v views at_v);
    }
