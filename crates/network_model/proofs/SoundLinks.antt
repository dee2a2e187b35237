-- A link more: its ends get their metrics.
use Rattle.std.proofs.Common.{◌≡◌, ◌≢◌, ◌⊎◌, inl, inr, ◌<◌, ℕ, Bool, true, false, true≢false, List, [], ◌∷◌, ◌++◌, length, refl, sym, ap, ◌∙◌, subst, Some, slice_get}
use Rattle.std.specs.List.{AllByRecursion}
use Rattle.spb_types.specs.declared.link.Dir.{Dir}
use Rattle.spb_types.specs.declared.link.Dir.TheVariants.{Ab, Ba}
use Rattle.bridge_api.specs.View.{BridgeView}
use Rattle.bridge_api.specs.Config.{IsMetric}
use Rattle.bridge_api.specs.Step as comes
use Rattle.spb_world.specs.declared.declaration.DeclaredLink.{DeclaredLink}
use Rattle.spb_world.specs.declared.declaration.LinkEnd.{LinkEnd}
use Rattle.spb_world.specs.World.{World, Bridges, IsEnd, things_of, is_at_port, AreApart, AreDistinct}
use Rattle.link_model.specs.Lanes.{no_frames}
use Rattle.spb_world.specs.Declaring.{with_link}
use Rattle.network_model.specs.State.{State, links_of, IsPortAt}
use Rattle.spb_world.specs.Links.{near_end, is_at}
use Rattle.network_model.specs.Events.{with_metric_at_end, with_metrics_over}
use Rattle.network_model.specs.Sound.{metric_at, HaveLinkMetrics, AreAttached, IsSoundState}
use Rattle.spb_world.proofs.BoxLemmas.{All-get}
use Rattle.spb_world.proofs.ListLemmas.{things_of-push}
use Rattle.spb_world.proofs.WorldLemmas.{IsNewLink}
use Rattle.network_model.proofs.FitsLemmas.{alike_itself, end_is_port}
use Rattle.network_model.proofs.SoundMoves.{IsCore}
use Rattle.spb_world.proofs.SoundLaneIds.{at_parts, away}
use Rattle.network_model.proofs.SoundSteps.{core_stepped}
use Rattle.network_model.proofs.SoundMetrics.{port_stepped, after_end, with_metric_end, with_metric_away}
use Rattle.network_model.proofs.SoundEvents.{sound_from, stepped_world, stepped_views, stepped_carriers, stepped_attached}
use Rattle.network_model.proofs.SoundDeclaring.{got_push, at_end, carriers_new_link, core_new_link}

-- an end of a new link isn't an end of another
apart_of : (e : LinkEnd) (dir : Dir) (m : DeclaredLink) → is_at_port m e.bridge e.port ≡ false → is_at e (near_end dir m).bridge (near_end dir m).port ≡ false
apart_of e dir m free = by (is_at e (near_end dir m).bridge (near_end dir m).port) refl
  where
    by : (b : Bool) → is_at e (near_end dir m).bridge (near_end dir m).port ≡ b → b ≡ false
    by true at =
        let parts = at_parts e (near_end dir m).bridge (near_end dir m).port at in
        absurd (true≢false (sym (at_end dir m e.bridge e.port (sym parts.0) (sym parts.1)) ∙ free))
    by false at = refl

-- both ends of a link more got their metrics
both_with_metric : (links : List DeclaredLink) (views : List BridgeView) (l : DeclaredLink) → HaveLinkMetrics links views → AllByRecursion (λ m. AreApart m l) links → l.a.bridge ≢ l.b.bridge → IsPortAt views l.a.bridge l.a.port → IsPortAt views l.b.bridge l.b.port → HaveLinkMetrics (links ++ l ∷ []) (after_end (after_end views l.a) l.b)
both_with_metric links views l have apart ends port_a port_b k dir m v at at_v = by (got_push links l k m at)
  where
    first : List BridgeView
    first = after_end views l.a

    fresh : (d : Dir) (u : BridgeView) → slice_get (after_end first l.b) (near_end d l).bridge ≡ Some u → metric_at u (near_end d l).port ≡ Some (near_end d l).metric
    fresh Ab u at_u = with_metric_away first l.b l.a.bridge l.a.port u (Some l.a.metric) (away l.b l.a.bridge l.a.port (λ e. ends (sym e))) (λ w at_w. with_metric_end views l.a w port_a at_w) at_u
    fresh Ba u at_u = with_metric_end first l.b u (port_stepped (comes.metric l.a.port l.a.metric) views l.a.bridge l.b.bridge l.b.port port_b) at_u

    by : ((k < length links) × (slice_get links k ≡ Some m)) ⊎ ((k ≡ length links) × (l ≡ m)) → metric_at v (near_end dir m).port ≡ Some (near_end dir m).metric
    by (inl old) =
        let two : AreApart m l = All-get (λ h. AreApart h l) links k m apart old.1 in
        let e : LinkEnd = near_end dir m in
        with_metric_away first l.b e.bridge e.port v (Some e.metric) (apart_of l.b dir m two.port_b)
        (λ u at_u. with_metric_away views l.a e.bridge e.port u (Some e.metric) (apart_of l.a dir m two.port_a) (λ w at_w. have k dir m w old.1 at_w) at_u) at_v
    by (inr new) =
        subst (λ (h : DeclaredLink). metric_at v (near_end dir h).port ≡ Some (near_end dir h).metric) new.1
        (fresh dir v (ap (λ (h : DeclaredLink). slice_get (after_end first l.b) (near_end dir h).bridge) new.1 ∙ at_v))

with_metric_new_link : (s : State) (name : List ℕ) (l : DeclaredLink) → IsSoundState s → IsNewLink s.world l → HaveLinkMetrics (things_of (with_link s.world name l).links) (after_end (after_end s.views l.a) l.b)
unfolding with_link
with_metric_new_link s name l sound new =
    subst (λ (ls : List DeclaredLink). HaveLinkMetrics ls (after_end (after_end s.views l.a) l.b)) (sym (things_of-push s.world.links name l))
    (both_with_metric (links_of s) s.views l sound.metrics new.apart new.link.apart (end_is_port s l.a sound.fits new.link.a) (end_is_port s l.b sound.fits new.link.b))

attached_new_link : (s : State) (name : List ℕ) (l : DeclaredLink) → AreAttached s.world s.views → AreAttached (with_link s.world name l) s.views
unfolding with_link
attached_new_link s name l attached = attached

pub end_metric : (bridges : Bridges) (e : LinkEnd) → IsEnd bridges e → IsMetric e.metric
end_metric bridges e is = record { low = is.metric_low; high = is.metric_high }

pub core_with_metric : (s : State) (e : LinkEnd) → IsMetric e.metric → IsCore s → IsCore (with_metric_at_end s e)
core_with_metric s e is core = core_stepped (comes.metric e.port e.metric) s s.lanes e.bridge (λ v at. is) core (alike_itself s) core.short (λ k dir f among. among) (λ p f is. absurd cc)

pub Sound-new_link : (s : State) (name : List ℕ) (l : DeclaredLink) → IsSoundState s → IsNewLink s.world l → AreDistinct (with_link s.world name l) → l.live ≡ false → IsSoundState (with_metrics_over (record s { world = with_link s.world name l; lanes = s.lanes ++ no_frames ∷ [] }) l)
Sound-new_link s name l sound new distinct dead =
    sound_from x (core_with_metric u l.b (end_metric s.world.bridges l.b new.link.b) (core_with_metric t l.a (end_metric s.world.bridges l.a new.link.a) (core_new_link s name l sound new distinct dead)))
    (stepped_carriers (comes.metric l.b.port l.b.metric) u l.b.bridge refl (stepped_carriers (comes.metric l.a.port l.a.metric) t l.a.bridge refl (carriers_new_link s name l sound dead)))
    (subst (λ (w : World). HaveLinkMetrics (things_of w.links) x.views) (sym world)
    (subst (λ (vs : List BridgeView). HaveLinkMetrics (links_of t) vs) (sym views) (with_metric_new_link s name l sound new)))
    (stepped_attached (comes.metric l.b.port l.b.metric) u l.b.bridge refl (stepped_attached (comes.metric l.a.port l.a.metric) t l.a.bridge refl (attached_new_link s name l sound.attached)))
  where
    t : State
    t = record s { world = with_link s.world name l; lanes = s.lanes ++ no_frames ∷ [] }

    u : State
    u = with_metric_at_end t l.a

    x : State
    x = with_metric_at_end u l.b

    world : x.world ≡ t.world
    world = stepped_world (comes.metric l.b.port l.b.metric) u l.b.bridge ∙ stepped_world (comes.metric l.a.port l.a.metric) t l.a.bridge

    views : x.views ≡ after_end (after_end s.views l.a) l.b
    views = stepped_views (comes.metric l.b.port l.b.metric) u l.b.bridge ∙ ap (λ (vs : List BridgeView). after_end vs l.b) (stepped_views (comes.metric l.a.port l.a.metric) t l.a.bridge)
