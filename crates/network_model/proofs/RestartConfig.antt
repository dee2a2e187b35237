-- What a blank box is configured with that takes the place of a bridge is whole, and has the metrics of its links.
use Rattle.std.proofs.Common.{◌≡◌, ◌≤◌, ◌<◌, ◌+◌, ◌-◌, ℕ, zero, suc, List, length, refl, sym, ap, ◌∙◌, subst, Option, Some, None, slice_get, arith}
use Rattle.std.specs.Prelude.{nat_le}
use Rattle.std.specs.List.{AllByRecursion}
use Rattle.std.specs.Option.{option_map_or}
use Rattle.std.proofs.lemmas.Bool.{le-leb}
use Rattle.spb_types.specs.declared.link.Dir.{Dir}
use Rattle.spb_types.specs.declared.link.Dir.TheVariants.{Ab, Ba}
use Rattle.link_model.specs.declared.lanes.LaneId.{LaneId}
use Rattle.bridge_api.specs.declared.config.BridgeConfig.{BridgeConfig}
use Rattle.bridge_api.specs.View.{BridgeView}
use Rattle.flooding.specs.Own.{last_number, own_number, own_numbers}
use Rattle.bridge_api.specs.Config.{IsMetric, IsWhole, configured}
use Rattle.bridge_api.specs.Laws.{IsSoundView, HasConfig}
use Rattle.spb_world.specs.declared.declaration.DeclaredBridge.{DeclaredBridge}
use Rattle.spb_world.specs.declared.declaration.DeclaredLink.{DeclaredLink}
use Rattle.spb_world.specs.World.{Bridges, things_of, attached_at, IsLink}
use Rattle.network_model.specs.State.{State, links_of}
use Rattle.spb_world.specs.Links.{near_end, lane_out, metric_over, port_metric, port_metrics}
use Rattle.network_model.specs.Restarting.{last_of, restart_config}
use Rattle.network_model.specs.Sound.{metric_at, IsShown, IsSoundState}
use Rattle.spb_world.proofs.BoxLemmas.{All-get}
use Rattle.network_model.proofs.BridgeLaws.{configured_has_no_carrier}
use Rattle.network_model.proofs.FitsLemmas.{link_there}
use Rattle.spb_world.proofs.SoundLaneIds.{lane_of_end}
use Rattle.network_model.proofs.SoundLinks.{end_metric}
use Rattle.network_model.proofs.SoundMetrics.{metric_of, seen}
use Rattle.network_model.proofs.SoundEvents.{core_of}
use Rattle.network_model.proofs.CountedMoves.{shown_at}
use Rattle.network_model.proofs.RestartCut.{if_true}
use Rattle.network_model.proofs.RestartBegins.{length-numbers_from, all_numbers, number_fits}

-- ---- the metrics

pub length-port_metrics : (links : List DeclaredLink) (i n p : ℕ) → length (port_metrics links i n p) ≡ n
length-port_metrics links i zero p = refl
length-port_metrics links i (suc n) p = ap suc (length-port_metrics links i n (p + 1))

pub get-port_metrics : (links : List DeclaredLink) (i n p m : ℕ) → m < n → slice_get (port_metrics links i n p) m ≡ Some (port_metric links i (p + m))
get-port_metrics links i zero p m within = absurd (omega (arith, within))
get-port_metrics links i (suc n) p zero within = let e : p ≡ p + 0 = omega arith in ap (λ (q : ℕ). Some (port_metric links i q)) e
get-port_metrics links i (suc n) p (suc m) within =
    let e : p + 1 + m ≡ p + suc m = omega arith in
    get-port_metrics links i n (p + 1) m (omega (arith, within)) ∙ ap (λ (q : ℕ). Some (port_metric links i q)) e

near_metric : (bridges : Bridges) (dir : Dir) (l : DeclaredLink) → IsLink bridges l → IsMetric (near_end dir l).metric
near_metric bridges Ab l is = end_metric bridges l.a is.a
near_metric bridges Ba l is = end_metric bridges l.b is.b

one_metric : IsMetric 1
one_metric = record { low = omega arith; high = omega arith }

-- by the link that a lane leads over
abbrev over : Dir → Option DeclaredLink → ℕ
over dir o = option_map_or (λ l. (near_end dir l).metric) o 1

over_at : (s : State) (dir : Dir) (k : ℕ) (o : Option DeclaredLink) → IsSoundState s → slice_get (links_of s) k ≡ o → IsMetric (over dir o)
over_at s dir k None sound at = one_metric
over_at s dir k (Some l) sound at = near_metric s.world.bridges dir l (link_there s k l sound.world at)

over_metric : (s : State) (lane : Option LaneId) → IsSoundState s → IsMetric (metric_over (links_of s) lane)
over_metric s None sound = one_metric
over_metric s (Some lane) sound = over_at s lane.dir lane.link (slice_get (links_of s) lane.link) sound refl

each_metric : (s : State) (i n p : ℕ) → IsSoundState s → AllByRecursion IsMetric (port_metrics (links_of s) i n p)
each_metric s i zero p sound = tt
each_metric s i (suc n) p sound = (over_metric s (lane_out (links_of s) i p) sound, each_metric s i n (p + 1) sound)

-- at an end of a link that of the end
pub near_port_metric : (s : State) (k : ℕ) (l : DeclaredLink) (dir : Dir) → IsSoundState s → slice_get (links_of s) k ≡ Some l → port_metric (links_of s) (near_end dir l).bridge (near_end dir l).port ≡ (near_end dir l).metric
near_port_metric s k l dir sound at =
    ap (metric_over (links_of s)) (lane_of_end (links_of s) k l dir sound.world.links_apart (link_there s k l sound.world at).apart at)
    ∙ ap (over dir) at

-- ---- it is whole

pub restart_whole : (s : State) (i : ℕ) (b : DeclaredBridge) → IsSoundState s → slice_get (things_of s.world.bridges) i ≡ Some b → IsWhole (restart_config s i b)
restart_whole s i b sound at =
    subst IsWhole (λ k. record { id = shown.id k; source = shown.source k; ports = b.ports; vids = shown.vids k; metrics = metrics; attached = attached k; last = last_of (slice_get s.views i) })
    (record {
      ports = All-get (λ (c : DeclaredBridge). c.ports ≤ 32) (things_of s.world.bridges) i b sound.world.ports at;
      metrics = length-port_metrics (links_of s) i b.ports 1;
      each_metric = each_metric s i b.ports 1 sound;
      few_vids = has.few_vids;
      each_vid = has.each_vid;
      vids_apart = has.vids_apart;
      priority = has.priority;
      system = has.system;
      source = has.source;
      each_attachment = has.each_attachment;
      attachments_apart = has.attachments_apart;
      few_isids = has.few_isids;
      last = ap (λ (o : Option BridgeView). length (last_of o)) some.1 ∙ length-numbers_from some.0 own_numbers 0;
      each_last =
          subst (λ (o : Option BridgeView). AllByRecursion (λ n. n ≤ last_number) (last_of o)) (sym some.1)
          (all_numbers (λ n. n ≤ last_number) some.0 own_numbers 0 (λ k. number_fits some.0 (own_number some.0.id.system k) (All-get IsSoundView s.views i some.0 sound.views some.1)));
    })
  where
    some : (v : BridgeView) × (slice_get s.views i ≡ Some v) × (v.id ≡ b.bridge.id)
    some = shown_at s i b (core_of s sound) at

    shown : IsShown s.world.vids b some.0
    shown = sound.shown i some.0 b some.1 at

    attached : some.0.attached ≡ attached_at s.world i
    attached = sound.attached i some.0 some.1

    metrics : List ℕ
    metrics = port_metrics (links_of s) i b.ports 1

    has : HasConfig some.0
    has = (All-get IsSoundView s.views i some.0 sound.views some.1).config

-- and the bridge has the metrics of its links
pub restart_has_metric : (s : State) (b : DeclaredBridge) (k : ℕ) (l : DeclaredLink) (dir : Dir) → IsSoundState s → slice_get (things_of s.world.bridges) (near_end dir l).bridge ≡ Some b → slice_get (links_of s) k ≡ Some l → 1 ≤ (near_end dir l).port → (near_end dir l).port ≤ b.ports → metric_at (configured (restart_config s (near_end dir l).bridge b)) (near_end dir l).port ≡ Some (near_end dir l).metric
restart_has_metric s b k l dir sound there at low high =
    let c : BridgeConfig = restart_config s (near_end dir l).bridge b in
    let p : ℕ = (near_end dir l).port in
    let ms : List ℕ = port_metrics (links_of s) (near_end dir l).bridge b.ports 1 in
    let e : 1 + (p - 1) ≡ p = omega (arith, low) in
    seen (configured c) p
    ∙ (ap (λ (ms : List ℕ). metric_of ms p) (configured_has_no_carrier c (restart_whole s (near_end dir l).bridge b sound there)).metrics
    ∙ (if_true (nat_le 1 p) (slice_get ms (p - 1)) None (le-leb 1 p low)
    ∙ (get-port_metrics (links_of s) (near_end dir l).bridge b.ports 1 (p - 1) (omega (arith, low, high))
    ∙ (ap (λ (q : ℕ). Some (port_metric (links_of s) (near_end dir l).bridge q)) e
    ∙ ap (λ (m : ℕ). Some m) (near_port_metric s k l dir sound at)))))
