-- The metric at each end of a link is that of the end.
use Rattle.std.proofs.Common.{◌≡◌, ◌≢◌, inl, inr, ◌≤◌, ◌-◌, ℕ, Bool, true, false, true≢false, List, refl, sym, ap, ◌∙◌, subst, Option, Some, None, slice_get, arith}
use Rattle.std.specs.Prelude.{nat_le, slice_set, if◌then◌else◌}
use Rattle.std.specs.Option.{option_map}
use Rattle.std.proofs.lemmas.Bool.{le-leb, leb-true}
use Rattle.std.proofs.lemmas.List.{length-map}
use Rattle.std.proofs.lemmas.Option.{slice_get-map}
use Rattle.bridge_api.specs.declared.port.BridgePort.{BridgePort}
use Rattle.bridge_api.specs.View.{BridgeView, IsPort, metrics_of}
use Rattle.bridge_api.specs.Step.{Input, second, frame, carrier, metric, attach, detach, customer, step}
use Rattle.bridge_api.specs.Laws.{metrics_after}
use Rattle.bridge_api.proofs.Places.{got_at, got_beside}
use Rattle.spb_world.specs.declared.declaration.DeclaredLink.{DeclaredLink}
use Rattle.spb_world.specs.declared.declaration.LinkEnd.{LinkEnd}
use Rattle.spb_world.specs.World.{Links, things_of}
use Rattle.spb_world.specs.Declaring.{switched}
use Rattle.spb_types.specs.Places.{changed_at}
use Rattle.spb_world.specs.Links.{near_end, is_at}
use Rattle.network_model.specs.State.{IsPortAt}
use Rattle.network_model.specs.Sound.{metric_at, HaveLinkMetrics}
use Rattle.network_model.proofs.BridgeLaws.{steps_keep_bridge}
use Rattle.spb_world.proofs.SoundLaneIds.{at_itself}
use Rattle.network_model.proofs.SoundSteps.{switched_link, same_near}
use Rattle.network_model.proofs.SoundCarrier.{got_changed}

-- ---- one bridge

-- the metric at a port, by the list of the metrics
abbrev pub metric_of : List ℕ → ℕ → Option ℕ
metric_of ms p = if nat_le 1 p then slice_get ms (p - 1) else None

seen_if : (b : Bool) (ports : List BridgePort) (i : ℕ) → option_map (λ port. port.metric) (if b then slice_get ports i else None) ≡ (if b then slice_get (metrics_of ports) i else None)
seen_if true ports i = sym (slice_get-map (λ (port : BridgePort). port.metric) ports i)
seen_if false ports i = refl

pub seen : (v : BridgeView) (p : ℕ) → metric_at v p ≡ metric_of (metrics_of v.ports) p
seen v p = seen_if (nat_le 1 p) v.ports (p - 1)

-- whether an input sets a metric
abbrev pub is_metric : Input → Bool
is_metric second = false
is_metric (frame q bytes) = false
is_metric (carrier q on) = false
is_metric (metric q m) = true
is_metric (attach a) = false
is_metric (detach q) = false
is_metric (customer q bytes) = false

kept_metrics : (x : Input) (ms : List ℕ) → is_metric x ≡ false → metrics_after x ms ≡ ms
kept_metrics second ms other = refl
kept_metrics (frame q bytes) ms other = refl
kept_metrics (carrier q on) ms other = refl
kept_metrics (metric q m) ms other = absurd cc
kept_metrics (attach a) ms other = refl
kept_metrics (detach q) ms other = refl
kept_metrics (customer q bytes) ms other = refl

-- no other input changes a metric
metric_kept : (x : Input) (v : BridgeView) (p : ℕ) → is_metric x ≡ false → metric_at (step x v) p ≡ metric_at v p
metric_kept x v p other =
    seen (step x v) p
    ∙ (ap (λ (ms : List ℕ). metric_of ms p) ((steps_keep_bridge x v).metrics ∙ kept_metrics x (metrics_of v.ports) other)
    ∙ sym (seen v p))

-- it sets that of one port, and leaves the others
metric_is_set : (v : BridgeView) (q m : ℕ) → IsPort v q → metric_at (step (metric q m) v) q ≡ Some m
metric_is_set v q m is =
    seen (step (metric q m) v) q
    ∙ (ap (λ (ms : List ℕ). metric_of ms q) (steps_keep_bridge (metric q m) v).metrics
    ∙ rw (le-leb 1 q is.low) (got_at (metrics_of v.ports) (q - 1) m (omega (arith, is.low, is.high, length-map v.ports (λ (port : BridgePort). port.metric)))))

beside_at : (a b : Bool) (ms : List ℕ) (q m p : ℕ) → nat_le 1 q ≡ a → nat_le 1 p ≡ b → p ≢ q → (if b then slice_get (if a then slice_set ms (q - 1) m else ms) (p - 1) else None) ≡ (if b then slice_get ms (p - 1) else None)
beside_at a false ms q m p low_q low_p apart = refl
beside_at false true ms q m p low_q low_p apart = refl
beside_at true true ms q m p low_q low_p apart = got_beside ms (q - 1) (p - 1) m (λ e. apart (omega (arith, leb-true 1 q low_q, leb-true 1 p low_p)))

metric_beside : (v : BridgeView) (q m p : ℕ) → p ≢ q → metric_at (step (metric q m) v) p ≡ metric_at v p
metric_beside v q m p apart =
    seen (step (metric q m) v) p
    ∙ (ap (λ (ms : List ℕ). metric_of ms p) (steps_keep_bridge (metric q m) v).metrics
    ∙ (beside_at (nat_le 1 q) (nat_le 1 p) (metrics_of v.ports) q m p refl refl apart
    ∙ sym (seen v p)))

-- ---- the bridges of a network

pub with_metric_stepped : (x : Input) (links : List DeclaredLink) (views : List BridgeView) (i : ℕ) → is_metric x ≡ false → HaveLinkMetrics links views → HaveLinkMetrics links (changed_at (step x) views i)
with_metric_stepped x links views i other have k dir l v at at_v =
    let p : ℕ = (near_end dir l).port in
    let was = got_changed (step x) views i (near_end dir l).bridge v at_v in
    elim was.is [
      | inl here ↦ ap (λ (u : BridgeView). metric_at u p) here.1 ∙ (metric_kept x was.was p other ∙ have k dir l was.was at was.there)
      | inr same ↦ ap (λ (u : BridgeView). metric_at u p) same.1 ∙ have k dir l was.was at was.there
    ]

pub with_metric_switched : (on : Bool) (ls : Links) (k : ℕ) (views : List BridgeView) → HaveLinkMetrics (things_of ls) views → HaveLinkMetrics (things_of (switched on ls k)) views
with_metric_switched on ls k views have j dir l v at at_v =
    let was = switched_link on ls k j l at in
    let near : near_end dir was.link ≡ near_end dir l = same_near dir was.link l was.a was.b in
    subst (λ (e : LinkEnd). metric_at v e.port ≡ Some e.metric) near
    (have j dir was.link v was.there (ap (λ (e : LinkEnd). slice_get views e.bridge) near ∙ at_v))

-- a bridge has its ports after a step
pub port_stepped : (x : Input) (views : List BridgeView) (i j p : ℕ) → IsPortAt views j p → IsPortAt (changed_at (step x) views i) j p
port_stepped x views i j p port v at =
    let was = got_changed (step x) views i j v at in
    let is : IsPort was.was p = port was.was was.there in
    elim was.is [
      | inl here ↦ subst (λ (u : BridgeView). IsPort u p) (sym here.1) (record { low = is.low; high = subst (λ (n : ℕ). p ≤ n) (sym (steps_keep_bridge x was.was).ports) is.high })
      | inr same ↦ subst (λ (u : BridgeView). IsPort u p) (sym same.1) is
    ]

-- the end of a link that gets its metric has it, and every other port is as it was
abbrev pub after_end : List BridgeView → LinkEnd → List BridgeView
after_end views e = changed_at (step (metric e.port e.metric)) views e.bridge

pub with_metric_end : (views : List BridgeView) (e : LinkEnd) (v : BridgeView) → IsPortAt views e.bridge e.port → slice_get (after_end views e) e.bridge ≡ Some v → metric_at v e.port ≡ Some e.metric
with_metric_end views e v port at =
    let was = got_changed (step (metric e.port e.metric)) views e.bridge e.bridge v at in
    elim was.is [
      | inl here ↦ ap (λ (u : BridgeView). metric_at u e.port) here.1 ∙ metric_is_set was.was e.port e.metric (port was.was was.there)
      | inr other ↦ absurd (other.0 refl)
    ]

pub with_metric_away : (views : List BridgeView) (e : LinkEnd) (i p : ℕ) (v : BridgeView) (o : Option ℕ) → is_at e i p ≡ false → ((u : BridgeView) → slice_get views i ≡ Some u → metric_at u p ≡ o) → slice_get (after_end views e) i ≡ Some v → metric_at v p ≡ o
with_metric_away views e i p v o apart have at =
    let was = got_changed (step (metric e.port e.metric)) views e.bridge i v at in
    elim was.is [
      | inl here ↦
          ap (λ (u : BridgeView). metric_at u p) here.1
          ∙ (metric_beside was.was e.port e.metric p (λ same. true≢false (sym (at_itself e i p (sym here.0) (sym same)) ∙ apart))
          ∙ have was.was was.there)
      | inr other ↦ ap (λ (u : BridgeView). metric_at u p) other.1 ∙ have was.was was.there
    ]
