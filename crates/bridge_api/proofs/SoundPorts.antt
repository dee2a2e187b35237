-- The ports of a bridge and its configuration stay sound.
use Rattle.std.proofs.Common.{◌≡◌, inl, inr, ◌-◌, ℕ, zero, suc, Bool, true, false, List, [], ◌∷◌, map, replicate, refl, sym, ap, ◌∙◌, subst, Option, Some, None, arith}
use Rattle.std.specs.Prelude.{slice_get, slice_set, nat_le, ◌==◌, if◌then◌else◌, ◌++◌}
use Rattle.std.specs.List.{AllByRecursion}
use Rattle.std.proofs.lemmas.List.{length-map}
use Rattle.std.proofs.lemmas.Bool.{and_parts}
use Rattle.isis_pdu.specs.Pdu.{HelloValue, hello}
use Rattle.isis_pdu.specs.Grammar.{IsId, IsBytes}
use Rattle.spb_types.specs.declared.address.SystemId.{SystemId}
use Rattle.spb_tlvs.specs.declared.three_way.ThreeWay.{ThreeWay}
use Rattle.adjacency.specs.declared.state.AdjState.{AdjState}
use Rattle.adjacency.specs.declared.state.AdjState.TheVariants.{Down, Initializing, Up}
use Rattle.adjacency.specs.declared.state.AdjacencyChange.{AdjacencyChange}
use Rattle.adjacency.specs.declared.state.AdjacencyChange.TheVariants as did
use Rattle.adjacency.specs.declared.port.Adjacency.{Adjacency}
use Rattle.adjacency.specs.States.{next_state, state_numbered}
use Rattle.adjacency.specs.Hearing.{is_discarded, sender}
use Rattle.adjacency.specs.Adjacency.{IsSound, no_system, down, led_to, state_towards, is_down, after_hello_heard, after_second, after_carrier, change_of}
use Rattle.bridge_api.specs.declared.port.BridgePort.{BridgePort}
use Rattle.bridge_api.specs.declared.config.BridgeConfig.{BridgeConfig}
use Rattle.bridge_api.specs.View.{BridgeView, port_at, neighbour_at, is_port_up, has_carrier_in, has_carrier_at, metrics_of}
use Rattle.bridge_api.specs.Config.{IsWhole, IsMetric, port_without_carrier, bare, configured}
use Rattle.bridge_api.specs.Parsing.{parsed}
use Rattle.bridge_api.specs.Parsing as parsing
use Rattle.bridge_api.specs.Hearing.{with_csnp_due, with_adjacency, after_receive, with_carrier, with_port_metric, with_metric}
use Rattle.bridge_api.specs.Ports.{noted, heard_hello_port, with_carrier_port}
use Rattle.bridge_api.specs.Ticking.{later}
use Rattle.bridge_api.specs.Customers.{after_entry}
use Rattle.bridge_api.specs.Services.{without_customer_port, with_port_forgotten}
use Rattle.bridge_api.specs.Step.{Input, second, frame, carrier, metric, attach, detach, customer, step}
use Rattle.bridge_api.specs.Laws.{IsSoundPort, HasConfig, IsInput, ConfiguredHasNoCarrier}
use Rattle.bridge_api.proofs.Adjacent.{came_up, stayed_up, hello_sound, second_sound, carrier_sound, not_discarded}
use Rattle.bridge_api.proofs.Changes.{KeepsRest, found, frame_ports, heard_hello_ports, carrier_step, with_carrier_ports, metric_step, with_metric_ports, with_attached_ports, tick_ports, configured_ports}
use Rattle.bridge_api.proofs.Certified.{end_in}
use Rattle.bridge_api.proofs.Heard.{pdu_in, IsHeardPdu, heard_pdu}
use Rattle.bridge_api.proofs.Octets.{small_bytes}

-- ---- the neighbour has six octets

abbrev pub IsSix : SystemId → Type 0
IsSix system = IsId system × IsBytes system.mac.bytes

no_system_six : IsSix no_system
no_system_six = (refl, small_bytes (replicate 6 0) (omega arith, (omega arith, (omega arith, (omega arith, (omega arith, (omega arith, tt)))))))

-- that of a sound port
pub six_of : (port : BridgePort) → IsSoundPort port → IsSix port.adjacency.neighbour
six_of port was = (was.neighbour, was.octets)

led_six : (s : AdjState) (h : HelloValue) (way : ThreeWay) → IsSix h.source → IsSix (led_to s h way).neighbour
led_six Down h way six = no_system_six
led_six Initializing h way six = six
led_six Up h way six = six

pub heard_six : (ended : Bool) (s : AdjState) (h : HelloValue) (way : ThreeWay) → IsSix h.source → IsSix (if ended then down true else led_to s h way).neighbour
heard_six true s h way six = no_system_six
heard_six false s h way six = led_six s h way six

second_six : (idle ended : Bool) (a : Adjacency) → IsSix a.neighbour → IsSix (if idle then a else (if ended then down a.carrier else record a { hold = a.hold - 1 })).neighbour
second_six true ended a six = six
second_six false true a six = no_system_six
second_six false false a six = six

pub carrier_six : (on : Bool) (a : Adjacency) → IsSix a.neighbour → IsSix (after_carrier on a).neighbour
carrier_six true a six = six
carrier_six false a six = no_system_six

-- ---- one port

noted_sound : (heard : AdjacencyChange) (port : BridgePort) → IsSound port.adjacency → IsSix port.adjacency.neighbour → IsMetric port.metric → (heard ≡ did.CameUp → is_port_up port ≡ true) → (heard ≡ did.Kept → port.csnp_due ≡ true → is_port_up port ≡ true) → (heard ≡ did.Discarded → port.csnp_due ≡ true → is_port_up port ≡ true) → IsSoundPort (noted heard port)
noted_sound did.Kept port sound six link came kept whole = record { adjacency = sound; neighbour = six.0; octets = six.1; csnp_due = kept refl; metric = link }
noted_sound did.CameUp port sound six link came kept whole = record { adjacency = sound; neighbour = six.0; octets = six.1; csnp_due = λ e. came refl; metric = link }
noted_sound did.LeftUp port sound six link came kept whole = record { adjacency = sound; neighbour = six.0; octets = six.1; csnp_due = λ e. absurd cc; metric = link }
noted_sound did.Discarded port sound six link came kept whole = record { adjacency = sound; neighbour = six.0; octets = six.1; csnp_due = whole refl; metric = link }

-- a port that another adjacency is noted at, by what the change from the old one was
change_sound : (port : BridgePort) (new : Adjacency) → IsSoundPort port → IsSound new → IsSix new.neighbour → IsSoundPort (noted (change_of port.adjacency new) (with_adjacency new port))
change_sound port new was sound six =
    noted_sound (change_of port.adjacency new) (with_adjacency new port) sound six was.metric (came_up port.adjacency new) (λ e due. stayed_up port.adjacency new e (was.csnp_due due)) (λ e. absurd (not_discarded port.adjacency new e))

hello_port_at : (discarded : Bool) (h : HelloValue) (way : ThreeWay) (port : BridgePort) → IsSoundPort port → IsSix h.source → IsSound (if discarded then port.adjacency else after_hello_heard h way port.adjacency) → IsSoundPort (noted (if discarded then did.Discarded else change_of port.adjacency (after_hello_heard h way port.adjacency)) (with_adjacency (if discarded then port.adjacency else after_hello_heard h way port.adjacency) port))
hello_port_at true h way port was six sound = was
hello_port_at false h way port was six sound =
    change_sound port (after_hello_heard h way port.adjacency) was sound (heard_six (h.holding == 0) (next_state (state_towards (sender h way) port.adjacency) (state_numbered way.state)) h way six)

pub heard_hello_sound : (v : BridgeView) (q : ℕ) (h : HelloValue) (way : ThreeWay) (port : BridgePort) → IsSoundPort port → IsSix h.source → IsSoundPort (heard_hello_port v.id.system q h way port)
heard_hello_sound v q h way port was six = hello_port_at (is_discarded v.id.system q h way) h way port was six (hello_sound v.id.system q h way port.adjacency was.adjacency)

pub with_carrier_sound : (on : Bool) (port : BridgePort) → IsSoundPort port → IsSoundPort (with_carrier_port on port)
with_carrier_sound on port was = change_sound port (after_carrier on port.adjacency) was (carrier_sound on port.adjacency was.adjacency) (carrier_six on port.adjacency (six_of port was))

pub with_metric_sound : (m : ℕ) (port : BridgePort) → IsMetric m → IsSoundPort port → IsSoundPort (with_port_metric m port)
with_metric_sound m port is was = record { adjacency = was.adjacency; neighbour = was.neighbour; octets = was.octets; csnp_due = was.csnp_due; metric = is }

pub later_sound : (port : BridgePort) → IsSoundPort port → IsSoundPort (later port)
later_sound port was =
    let six : IsSix (after_second port.adjacency).neighbour = second_six (is_down port.adjacency.state) (port.adjacency.hold == 1) port.adjacency (six_of port was) in
    record {
      adjacency = second_sound port.adjacency was.adjacency;
      neighbour = six.0;
      octets = six.1;
      csnp_due = λ e. (and_parts port.csnp_due (is_port_up (with_adjacency (after_second port.adjacency) port)) e).1;
      metric = was.metric;
    }

pub undue_sound : (port : BridgePort) → IsSoundPort port → IsSoundPort (with_csnp_due false port)
undue_sound port was = record { adjacency = was.adjacency; neighbour = was.neighbour; octets = was.octets; csnp_due = λ e. absurd cc; metric = was.metric }

-- ---- all ports

abbrev pub AreSoundPorts : List BridgePort → Type 0
AreSoundPorts ports = AllByRecursion IsSoundPort ports

pub all_later : (ports : List BridgePort) → AreSoundPorts ports → AreSoundPorts (map later ports)
all_later [] all = all
all_later (port ∷ ports) all = (later_sound port all.0, all_later ports all.1)

pub all_undue : (ports : List BridgePort) → AreSoundPorts ports → AreSoundPorts (map (with_csnp_due false) ports)
all_undue [] all = all
all_undue (port ∷ ports) all = (undue_sound port all.0, all_undue ports all.1)

pub all_set : (ports : List BridgePort) (i : ℕ) (port : BridgePort) → AreSoundPorts ports → IsSoundPort port → AreSoundPorts (slice_set ports i port)
all_set [] i port all sound = all
all_set (x ∷ ports) zero port all sound = (sound, all.1)
all_set (x ∷ ports) (suc i) port all sound = (all.0, all_set ports i port all.1 sound)

pub all_at : (ports : List BridgePort) (i : ℕ) (port : BridgePort) → AreSoundPorts ports → slice_get ports i ≡ Some port → IsSoundPort port
all_at [] i port all is = absurd cc
all_at (x ∷ ports) zero port all is = let same : x ≡ port = cc in subst IsSoundPort same all.0
all_at (x ∷ ports) (suc i) port all is = all_at ports i port all.1 is

pub sound_at : (v : BridgeView) (q : ℕ) (port : BridgePort) → AreSoundPorts v.ports → port_at v q ≡ Some port → IsSoundPort port
sound_at v q port all there = all_at v.ports (q - 1) port all (found v.ports q port there).1

-- the source of a hello that was heard
pub source_six : (bytes : List ℕ) (h : HelloValue) (way : ThreeWay) → parsed bytes ≡ parsing.hello h way → IsSix h.source
source_six bytes h way is =
    let heard : IsHeardPdu bytes (hello h) = heard_pdu bytes (hello h) (ap pdu_in is) in
    (heard.from.pdu.ids, heard.from.fields.1)

-- one port is sound afterwards, and no other changed
one_sound : (v w : BridgeView) (q : ℕ) (to : BridgePort) → AreSoundPorts v.ports → IsSoundPort to → w.ports ≡ slice_set v.ports (q - 1) to → AreSoundPorts w.ports
one_sound v w q to all sound is = subst AreSoundPorts (sym is) (all_set v.ports (q - 1) to all sound)

pub ports_stay_sound : (input : Input) (v : BridgeView) → IsInput v input → AreSoundPorts v.ports → AreSoundPorts (step input v).ports
unfolding with_port_forgotten after_entry
ports_stay_sound second v is was = subst AreSoundPorts (sym (tick_ports v)) (all_undue (map later v.ports) (all_later v.ports was))
ports_stay_sound (frame q bytes) v is was =
    elim (frame_ports v q bytes) [
      | inl same ↦ subst AreSoundPorts (sym same) was
      | inr g ↦
          one_sound v (after_receive q bytes v) q (heard_hello_port v.id.system q g.hello g.way g.port) was
          (heard_hello_sound v q g.hello g.way g.port (sound_at v q g.port was g.there) (source_six bytes g.hello g.way g.is))
          (ap (λ (u : BridgeView). u.ports) g.after ∙ heard_hello_ports g.hello g.way q g.port v g.there)
    ]
ports_stay_sound (carrier q on) v is was =
    elim (carrier_step v q on) [
      | inl e ↦ subst (λ (u : BridgeView). AreSoundPorts u.ports) (sym e) was
      | inr g ↦ one_sound v (with_carrier q on v) q (with_carrier_port on g.port) was (with_carrier_sound on g.port (sound_at v q g.port was g.there)) (ap (λ (u : BridgeView). u.ports) g.after ∙ with_carrier_ports q on g.port v g.there)
    ]
ports_stay_sound (metric q m) v is was =
    elim (metric_step v q m) [
      | inl e ↦ subst (λ (u : BridgeView). AreSoundPorts u.ports) (sym e) was
      | inr g ↦ one_sound v (with_metric q m v) q (with_port_metric m g.port) was (with_metric_sound m g.port is (sound_at v q g.port was g.there)) (ap (λ (u : BridgeView). u.ports) g.after ∙ with_metric_ports q m g.port v)
    ]
ports_stay_sound (attach a) v is was = subst AreSoundPorts (sym (with_attached_ports (v.attached ++ a ∷ []) v)) was
ports_stay_sound (detach p) v is was = subst AreSoundPorts (sym (with_attached_ports (without_customer_port p v.attached) (with_port_forgotten p v))) was
ports_stay_sound (customer p bytes) v is was = was

-- ---- the configuration

pub config_kept : (v w : BridgeView) → KeepsRest v w → HasConfig v → HasConfig w
config_kept v w rest was =
    subst HasConfig (sym rest) (record {
      priority = was.priority;
      system = was.system;
      source = was.source;
      few_vids = was.few_vids;
      each_vid = was.each_vid;
      vids_apart = was.vids_apart;
      each_attachment = was.each_attachment;
      attachments_apart = was.attachments_apart;
      few_isids = was.few_isids;
    })

pub bare_config : (c : BridgeConfig) → IsWhole c → HasConfig (bare c)
bare_config c whole = record {
  priority = whole.priority;
  system = whole.system;
  source = whole.source;
  few_vids = whole.few_vids;
  each_vid = whole.each_vid;
  vids_apart = whole.vids_apart;
  each_attachment = whole.each_attachment;
  attachments_apart = whole.attachments_apart;
  few_isids = whole.few_isids;
}

pub configured_config : (c : BridgeConfig) → IsWhole c → HasConfig (configured c)
unfolding configured
configured_config c whole = config_kept (bare c) (configured c) refl (bare_config c whole)

pub all_without_carrier : (metrics : List ℕ) → AllByRecursion IsMetric metrics → AreSoundPorts (map port_without_carrier metrics)
all_without_carrier [] each = tt
all_without_carrier (m ∷ ms) each = (record { adjacency = refl; neighbour = no_system_six.0; octets = no_system_six.1; csnp_due = λ e. absurd cc; metric = each.0 }, all_without_carrier ms each.1)

pub configured_sound : (c : BridgeConfig) → IsWhole c → AreSoundPorts (configured c).ports
configured_sound c whole = subst AreSoundPorts (sym (configured_ports c)) (all_without_carrier c.metrics whole.each_metric)

no_carrier_metrics : (metrics : List ℕ) → metrics_of (map port_without_carrier metrics) ≡ metrics
no_carrier_metrics [] = refl
no_carrier_metrics (m ∷ ms) = ap (λ (list : List ℕ). m ∷ list) (no_carrier_metrics ms)

-- a port that is found there has no carrier
no_carrier_found : {X : Type 0} (f : Option BridgePort → X) (x : X) → f None ≡ x → ((m : ℕ) → f (Some (port_without_carrier m)) ≡ x) → (metrics : List ℕ) (i : ℕ) → f (slice_get (map port_without_carrier metrics) i) ≡ x
no_carrier_found f x none some [] i = none
no_carrier_found f x none some (m ∷ ms) zero = some m
no_carrier_found f x none some (m ∷ ms) (suc i) = no_carrier_found f x none some ms i

no_carrier_in : {X : Type 0} (f : Option BridgePort → X) (x : X) → f None ≡ x → ((m : ℕ) → f (Some (port_without_carrier m)) ≡ x) → (low : Bool) (metrics : List ℕ) (i : ℕ) → f (if low then slice_get (map port_without_carrier metrics) i else None) ≡ x
no_carrier_in f x none some true metrics i = no_carrier_found f x none some metrics i
no_carrier_in f x none some false metrics i = none

pub configured_has_no_carrier : ConfiguredHasNoCarrier
unfolding configured has_carrier_at neighbour_at
configured_has_no_carrier c whole = record {
  ports = length-map c.metrics port_without_carrier ∙ whole.metrics;
  metrics = no_carrier_metrics c.metrics;
  carrier = λ p. no_carrier_in has_carrier_in false refl (λ m. refl) (nat_le 1 p) c.metrics (p - 1);
  neighbour = λ p. no_carrier_in end_in None refl (λ m. refl) (nat_le 1 p) c.metrics (p - 1);
}
