-- What a step keeps of a bridge, and whom it keeps as neighbours.
use Rattle.std.proofs.Common.{◌≡◌, ◌⊎◌, inl, inr, ◌-◌, ℕ, zero, suc, false, true, Bool, List, [], ◌∷◌, length, map, refl, sym, ap, ◌∙◌, subst, Option, Some, None, arith}
use Rattle.std.specs.Prelude.{slice_get, slice_set, nat_le, if◌then◌else◌, ◌++◌}
use Rattle.std.specs.Option.{option_map, option_and_then}
use Rattle.std.proofs.lemmas.List.{length-set, length-map}
use Rattle.std.proofs.lemmas.Option.{slice_get-map}
use Rattle.std.proofs.lemmas.Bool.{le-leb}
use Rattle.spb_types.specs.declared.service.Attachment.{Attachment}
use Rattle.adjacency.specs.declared.state.AdjacencyChange.{AdjacencyChange}
use Rattle.adjacency.specs.declared.state.AdjacencyChange.TheVariants as did
use Rattle.adjacency.specs.declared.port.Adjacency.{Adjacency}
use Rattle.adjacency.specs.Hearing.{End}
use Rattle.adjacency.specs.Adjacency.{neighbour_of, after_hello, after_carrier, change_of, change_by_hello}
use Rattle.adjacency.proofs.Neighbours.{hello_keeps}
use Rattle.bridge_api.specs.declared.port.BridgePort.{BridgePort}
use Rattle.bridge_api.specs.View.{BridgeView, IsPort, port_in, port_at, with_port_at, neighbour_at, metrics_of}
use Rattle.bridge_api.specs.Own.{originated_if_changed}
use Rattle.bridge_api.specs.Parsing.{parsed}
use Rattle.bridge_api.specs.Hearing.{with_csnp_due, with_adjacency, after_receive, with_carrier_at, with_carrier, with_port_metric, with_metric_at, with_metric}
use Rattle.bridge_api.specs.Ports.{noted, heard_hello_port, with_carrier_port}
use Rattle.bridge_api.specs.Ticking.{later, after_tick}
use Rattle.bridge_api.specs.Step.{Input, second, frame, carrier, metric, attach, detach, customer, step}
use Rattle.bridge_api.specs.Customers.{after_entry}
use Rattle.bridge_api.specs.Services.{without_customer_port, with_port_forgotten}
use Rattle.bridge_api.specs.Laws.{metrics_after, IsSameBridge, StepsKeepBridge, StepsKeepNeighbours, hello_sender}
use Rattle.bridge_api.proofs.Places.{set_again, seen_set}
use Rattle.bridge_api.proofs.Attached.{with_attached_after}
use Rattle.bridge_api.proofs.Adjacent.{second_keeps, carrier_keeps}
use Rattle.bridge_api.proofs.Changes.{KeepsRest, rest_of, found, one_port, HelloStep, frame_ports, frame_rest, heard_hello_ports, carrier_step, with_carrier_ports, with_carrier_rest, metric_step, with_metric_ports, with_metric_rest, with_attached_ports, with_attached_rest, ticked, tick_port, tick_ports, tick_rest}

-- ---- the bridge stays the same

same_after : (x : Input) (v w : BridgeView) → KeepsRest (with_attached_after x v) w → length w.ports ≡ length v.ports → metrics_of w.ports ≡ metrics_after x (metrics_of v.ports) → IsSameBridge x v w
same_after x v w is ports metrics = record {
  id = ap (λ (u : BridgeView). u.id) is;
  source = ap (λ (u : BridgeView). u.source) is;
  vids = ap (λ (u : BridgeView). u.vids) is;
  attached = ap (λ (u : BridgeView). u.attached) is;
  ports = ports;
  metrics = metrics;
  failed = ap (λ (u : BridgeView). u.failed) is;
}

-- no port changed, or one, and not its metric
unchanged_same : (x : Input) (v w : BridgeView) → KeepsRest (with_attached_after x v) w → w.ports ≡ v.ports → metrics_after x (metrics_of v.ports) ≡ metrics_of v.ports → IsSameBridge x v w
unchanged_same x v w is same kept = same_after x v w is (ap length same) (ap metrics_of same ∙ sym kept)

one_same : (x : Input) (v w : BridgeView) (q : ℕ) (from to : BridgePort) → port_at v q ≡ Some from → KeepsRest (with_attached_after x v) w → w.ports ≡ slice_set v.ports (q - 1) to → to.metric ≡ from.metric → metrics_after x (metrics_of v.ports) ≡ metrics_of v.ports → IsSameBridge x v w
one_same x v w q from to there is ports same kept =
    let metrics : metrics_of (slice_set v.ports (q - 1) to) ≡ metrics_of v.ports =
    seen_set (λ (port : BridgePort). port.metric) v.ports (q - 1) to
    ∙ (ap (λ (m : ℕ). slice_set (metrics_of v.ports) (q - 1) m) same
    ∙ set_again (metrics_of v.ports) (q - 1) from.metric (slice_get-map (λ (port : BridgePort). port.metric) v.ports (q - 1) ∙ ap (option_map (λ (port : BridgePort). port.metric)) (found v.ports q from there).1)) in
    same_after x v w is (ap length ports ∙ length-set v.ports (q - 1) to) (ap metrics_of ports ∙ (metrics ∙ sym kept))

noted_metric : (heard : AdjacencyChange) (port : BridgePort) → (noted heard port).metric ≡ port.metric
noted_metric did.Kept port = refl
noted_metric did.CameUp port = refl
noted_metric did.LeftUp port = refl
noted_metric did.Discarded port = refl

ticked_metrics : (ports : List BridgePort) → metrics_of (map (with_csnp_due false) (map later ports)) ≡ metrics_of ports
ticked_metrics [] = refl
ticked_metrics (port ∷ ports) = ap (λ (ms : List ℕ). port.metric ∷ ms) (ticked_metrics ports)

unset_at : (b : Bool) (ports : List BridgePort) (i m : ℕ) → (if b then slice_get ports i else None) ≡ None → metrics_of ports ≡ (if b then slice_set (metrics_of ports) i m else metrics_of ports)
unset_at true [] i m none = refl
unset_at true (port ∷ ports) zero m none = absurd cc
unset_at true (port ∷ ports) (suc i) m none = ap (λ (ms : List ℕ). port.metric ∷ ms) (unset_at true ports i m none)
unset_at false ports i m none = refl

metric_same : (o : Option BridgePort) (v : BridgeView) (q m : ℕ) → port_at v q ≡ o → IsSameBridge (metric q m) v (with_metric_at q m o v)
metric_same None v q m there = unchanged_same (metric q m) v v refl refl (sym (unset_at (nat_le 1 q) v.ports (q - 1) m there))
metric_same (Some port) v q m there =
    same_after (metric q m) v (with_metric_at q m (Some port) v) (with_metric_rest q m port v) (ap length (with_metric_ports q m port v) ∙ length-set v.ports (q - 1) (with_port_metric m port))
    (ap metrics_of (with_metric_ports q m port v) ∙ rw (le-leb 1 q (found v.ports q port there).0) (seen_set (λ (x : BridgePort). x.metric) v.ports (q - 1) (with_port_metric m port)))

pub steps_keep_bridge : StepsKeepBridge
unfolding with_metric with_port_forgotten after_entry
steps_keep_bridge second v =
    same_after second v (after_tick v) (tick_rest v) (ap length (tick_ports v) ∙ (length-map (map later v.ports) (with_csnp_due false) ∙ length-map v.ports later)) (ap metrics_of (tick_ports v) ∙ ticked_metrics v.ports)
steps_keep_bridge (frame q bytes) v =
    elim (frame_ports v q bytes) [
      | inl same ↦ unchanged_same (frame q bytes) v (after_receive q bytes v) (frame_rest v q bytes) same refl
      | inr g ↦ one_same (frame q bytes) v (after_receive q bytes v) q g.port (heard_hello_port v.id.system q g.hello g.way g.port) g.there (frame_rest v q bytes) (ap (λ (u : BridgeView). u.ports) g.after ∙ heard_hello_ports g.hello g.way q g.port v g.there) (noted_metric (change_by_hello v.id.system q g.hello g.way g.port.adjacency) (with_adjacency (after_hello v.id.system q g.hello g.way g.port.adjacency) g.port)) refl
    ]
steps_keep_bridge (carrier q on) v =
    elim (carrier_step v q on) [
      | inl e ↦ unchanged_same (carrier q on) v (with_carrier q on v) (rest_of v (with_carrier q on v) v e refl) (ap (λ (u : BridgeView). u.ports) e) refl
      | inr g ↦ subst (λ (u : BridgeView). IsSameBridge (carrier q on) v u) (sym g.after)
          (one_same (carrier q on) v (with_carrier_at q on (Some g.port) v) q g.port (with_carrier_port on g.port) g.there (with_carrier_rest q on g.port v) (with_carrier_ports q on g.port v g.there) (noted_metric (change_of g.port.adjacency (after_carrier on g.port.adjacency)) (with_adjacency (after_carrier on g.port.adjacency) g.port)) refl)
    ]
steps_keep_bridge (metric q m) v = metric_same (port_at v q) v q m refl
steps_keep_bridge (attach a) v = let list : List Attachment = v.attached ++ a ∷ [] in unchanged_same (attach a) v (step (attach a) v) (with_attached_rest list v) (with_attached_ports list v) refl
steps_keep_bridge (detach p) v =
    let list : List Attachment = without_customer_port p v.attached in
    unchanged_same (detach p) v (step (detach p) v) (with_attached_rest list (with_port_forgotten p v)) (with_attached_ports list (with_port_forgotten p v)) refl
steps_keep_bridge (customer p bytes) v = unchanged_same (customer p bytes) v (after_entry p bytes v) refl refl refl

-- a step changes ports, LSPs, whether the bridge is spent, what is attached and what is learned, and nothing else
pub step_rest : (input : Input) (v : BridgeView) → KeepsRest (with_attached_after input v) (step input v)
unfolding with_port_forgotten after_entry
step_rest second v = tick_rest v
step_rest (frame q bytes) v = frame_rest v q bytes
step_rest (carrier q on) v =
    elim (carrier_step v q on) [
      | inl e ↦ rest_of v (with_carrier q on v) v e refl
      | inr g ↦ rest_of v (with_carrier q on v) (with_carrier_at q on (Some g.port) v) g.after (with_carrier_rest q on g.port v)
    ]
step_rest (metric q m) v =
    elim (metric_step v q m) [
      | inl e ↦ rest_of v (with_metric q m v) v e refl
      | inr g ↦ rest_of v (with_metric q m v) (originated_if_changed (with_port_at q (with_port_metric m g.port) v)) g.after (with_metric_rest q m g.port v)
    ]
step_rest (attach a) v = with_attached_rest (v.attached ++ a ∷ []) v
step_rest (detach p) v = with_attached_rest (without_customer_port p v.attached) (with_port_forgotten p v)
step_rest (customer p bytes) v = refl

-- a step keeps the number of ports
pub ports_after : (input : Input) (v w : BridgeView) → w ≡ step input v → length w.ports ≡ length v.ports
ports_after input v w is = ap (λ (u : BridgeView). length u.ports) is ∙ (steps_keep_bridge input v).ports

pub port_after : (input : Input) (v w : BridgeView) (p : ℕ) → w ≡ step input v → IsPort v p → IsPort w p
port_after input v w p is within = record { low = within.low; high = omega (arith, ports_after input v w is, within.high) }

-- ---- who is kept

abbrev pub end_in : Option BridgePort → Option End
end_in o = option_and_then (λ port. neighbour_of port.adjacency) o

pub noted_keeps : (heard : AdjacencyChange) (port : BridgePort) → (noted heard port).adjacency ≡ port.adjacency
noted_keeps did.Kept port = refl
noted_keeps did.CameUp port = refl
noted_keeps did.LeftUp port = refl
noted_keeps did.Discarded port = refl

tick_keeps_in : (o : Option BridgePort) (n : End) → end_in (option_map ticked o) ≡ Some n → end_in o ≡ Some n
tick_keeps_in None n kept = kept
tick_keeps_in (Some port) n kept = second_keeps port.adjacency n kept

-- one port changed: whoever is kept there was kept, or came by what the change was
one_keeps : (v w : BridgeView) (q : ℕ) (from to : BridgePort) (p : ℕ) (n : End) (C : Type 0) → port_at v q ≡ Some from → w.ports ≡ slice_set v.ports (q - 1) to → (neighbour_of to.adjacency ≡ Some n → (neighbour_of from.adjacency ≡ Some n) ⊎ C) → neighbour_at w p ≡ Some n → (neighbour_at v p ≡ Some n) ⊎ ((q ≡ p) × C)
unfolding neighbour_at
one_keeps v w q from to p n C there is why kept =
    let at = found v.ports q from there in
    let kept' : end_in (port_in (slice_set v.ports (q - 1) to) p) ≡ Some n = subst (λ (ports : List BridgePort). end_in (port_in ports p) ≡ Some n) is kept in
    elim (one_port v.ports q from to p at.0 at.1) [
      | inl here ↦
          elim (why (sym (ap end_in here.1) ∙ kept')) [
            | inl was ↦ inl (subst (λ (k : ℕ). end_in (port_in v.ports k) ≡ Some n) (sym here.0) (ap end_in there ∙ was))
            | inr new ↦ inr (sym here.0, new)
          ]
      | inr same ↦ inl (sym (ap end_in same) ∙ kept')
    ]

heard_hello_keeps : (v : BridgeView) (q : ℕ) (bytes : List ℕ) (g : HelloStep v q bytes (after_receive q bytes v)) (n : End) → neighbour_of (heard_hello_port v.id.system q g.hello g.way g.port).adjacency ≡ Some n → (neighbour_of g.port.adjacency ≡ Some n) ⊎ (hello_sender (parsed bytes) ≡ Some n)
heard_hello_keeps v q bytes g n kept =
    let a : Adjacency = g.port.adjacency in
    let heard : neighbour_of (after_hello v.id.system q g.hello g.way a) ≡ Some n = subst (λ (b : Adjacency). neighbour_of b ≡ Some n) (noted_keeps (change_by_hello v.id.system q g.hello g.way a) (with_adjacency (after_hello v.id.system q g.hello g.way a) g.port)) kept in
    elim (hello_keeps v.id.system q g.hello g.way a n heard) [
      | inl was ↦ inl was
      | inr from ↦ inr (ap hello_sender g.is ∙ ap (λ (m : End). Some m) from)
    ]

with_carrier_keeps : (on : Bool) (port : BridgePort) (n : End) → neighbour_of (with_carrier_port on port).adjacency ≡ Some n → (neighbour_of port.adjacency ≡ Some n) ⊎ ⊥
with_carrier_keeps on port n kept =
    let a : Adjacency = port.adjacency in
    inl (carrier_keeps on a n (subst (λ (b : Adjacency). neighbour_of b ≡ Some n) (noted_keeps (change_of a (after_carrier on a)) (with_adjacency (after_carrier on a) port)) kept))

no_cause : {A : Type 0} (q p : ℕ) → A ⊎ ((q ≡ p) × ⊥) → A ⊎ ⊥
no_cause q p (inl a) = inl a
no_cause q p (inr c) = inr c.1

pub steps_keep_neighbours : StepsKeepNeighbours
unfolding neighbour_at with_port_forgotten after_entry
steps_keep_neighbours second v p n kept = inl (tick_keeps_in (port_at v p) n (sym (ap end_in (tick_port v p)) ∙ kept))
steps_keep_neighbours (frame q bytes) v p n kept =
    elim (frame_ports v q bytes) [
      | inl same ↦ inl (subst (λ (ports : List BridgePort). end_in (port_in ports p) ≡ Some n) same kept)
      | inr g ↦ one_keeps v (after_receive q bytes v) q g.port (heard_hello_port v.id.system q g.hello g.way g.port) p n (hello_sender (parsed bytes) ≡ Some n) g.there (ap (λ (u : BridgeView). u.ports) g.after ∙ heard_hello_ports g.hello g.way q g.port v g.there) (heard_hello_keeps v q bytes g n) kept
    ]
steps_keep_neighbours (carrier q on) v p n kept =
    elim (carrier_step v q on) [
      | inl e ↦ inl (subst (λ (u : BridgeView). neighbour_at u p ≡ Some n) e kept)
      | inr g ↦ no_cause q p (one_keeps v (with_carrier q on v) q g.port (with_carrier_port on g.port) p n ⊥ g.there (ap (λ (u : BridgeView). u.ports) g.after ∙ with_carrier_ports q on g.port v g.there) (with_carrier_keeps on g.port n) kept)
    ]
steps_keep_neighbours (metric q m) v p n kept =
    elim (metric_step v q m) [
      | inl e ↦ inl (subst (λ (u : BridgeView). neighbour_at u p ≡ Some n) e kept)
      | inr g ↦ no_cause q p (one_keeps v (with_metric q m v) q g.port (with_port_metric m g.port) p n ⊥ g.there (ap (λ (u : BridgeView). u.ports) g.after ∙ with_metric_ports q m g.port v) (λ was. inl was) kept)
    ]
steps_keep_neighbours (attach a) v p n kept = inl (subst (λ (ports : List BridgePort). end_in (port_in ports p) ≡ Some n) (with_attached_ports (v.attached ++ a ∷ []) v) kept)
steps_keep_neighbours (detach q) v p n kept = inl (subst (λ (ports : List BridgePort). end_in (port_in ports p) ≡ Some n) (with_attached_ports (without_customer_port q v.attached) (with_port_forgotten q v)) kept)
steps_keep_neighbours (customer q bytes) v p n kept = inl kept
