-- A bridge that was just configured; and one of a single port, which gets a metric and carrier and sends a hello.
use Rattle.std.proofs.Common.{◌≡◌, ℕ, true, false, List, [], ◌∷◌, Option, Some, None, inl, inr, refl, sym, subst, ap, ◌∙◌}
use Rattle.std.specs.Prelude.{slice_set, map}
use Rattle.std.specs.Option.{option_and_then}
use Rattle.isis_pdu.specs.Pdu.{HelloValue}
use Rattle.spb_tlvs.specs.declared.three_way.ThreeWay.{ThreeWay}
use Rattle.spb_tlvs.specs.RoundTrip.{IsNamed}
use Rattle.adjacency.specs.Hearing.{End}
use Rattle.adjacency.specs.Adjacency.{down, neighbour_of}
use Rattle.bridge_api.specs.declared.config.BridgeConfig.{BridgeConfig}
use Rattle.bridge_api.specs.declared.port.BridgePort.{BridgePort}
use Rattle.bridge_api.specs.View.{BridgeView, port_in, neighbour_at, has_carrier_in, has_carrier_at}
use Rattle.bridge_api.specs.Own.{originated_if_changed, after_begin}
use Rattle.bridge_api.specs.Config.{port_without_carrier, bare, configured}
use Rattle.bridge_api.specs.Hearing.{with_metric_at, with_metric, with_carrier_at, with_carrier}
use Rattle.bridge_api.specs.Ticking.{later, expired, counts_lowered, refreshed, readied, hello_frame, sent_from, sent_in_tick}
use Rattle.bridge_api.specs.Parsing.{parsed}
use Rattle.bridge_api.specs.Parsing as parsing
use Rattle.bridge_api.specs.Step.{second, carrier, metric, step}
use Rattle.bridge_api.specs.Laws.{IsSoundView, IsSent, IsHelloHeard}
use Rattle.network_model.proofs.BridgeLaws.{steps_keep_bridge, steps_keep_neighbours, hellos_are_heard}
use Rattle.network_model.proofs.SoundLane.{IsStill}

-- it has the ids and the VIDs of its configuration
begun_still : (last : List ℕ) (v : BridgeView) → IsStill v (after_begin last v)
begun_still last v = record { id = refl; source = refl; vids = refl }

pub configured_still : (c : BridgeConfig) → IsStill (bare c) (configured c)
unfolding configured
configured_still c = begun_still c.last (bare c)

-- and has attached what this says
begun_attached : (last : List ℕ) (v : BridgeView) → (after_begin last v).attached ≡ v.attached
begun_attached last v = refl

pub configured_attached : (c : BridgeConfig) → (configured c).attached ≡ c.attached
unfolding configured
configured_attached c = begun_attached c.last (bare c)

-- ---- the ports

pub originated_if_changed_ports : (v : BridgeView) → (originated_if_changed v).ports ≡ v.ports
unfolding originated_if_changed
originated_if_changed_ports v = refl

refreshed_ports : (v : BridgeView) → (refreshed v).ports ≡ v.ports
unfolding refreshed
refreshed_ports v = refl

pub configured_ports : (c : BridgeConfig) → (configured c).ports ≡ map port_without_carrier c.metrics
unfolding configured
configured_ports c = begun_ports c.last (bare c)
  where
    begun_ports : (last : List ℕ) (v : BridgeView) → (after_begin last v).ports ≡ v.ports
    begun_ports last v = refl

-- a port with carrier and without a neighbour
abbrev pub first_port : ℕ → BridgePort
first_port m = record { adjacency = down true; csnp_due = false; metric = m }

-- the only port gets a metric, and then carrier
pub with_metric_port : (v : BridgeView) (m n : ℕ) → v.ports ≡ port_without_carrier m ∷ [] → (with_metric 1 n v).ports ≡ port_without_carrier n ∷ []
unfolding with_metric
with_metric_port v m n is =
    ap (λ (ports : List BridgePort). (with_metric_at 1 n (port_in ports 1) v).ports) is
    ∙ (originated_if_changed_ports (record v { ports = slice_set v.ports 0 (port_without_carrier n) })
    ∙ ap (λ (ports : List BridgePort). slice_set ports 0 (port_without_carrier n)) is)

with_carrier_port : (v : BridgeView) (m : ℕ) → v.ports ≡ port_without_carrier m ∷ [] → (with_carrier 1 true v).ports ≡ first_port m ∷ []
unfolding with_carrier
with_carrier_port v m is =
    ap (λ (ports : List BridgePort). (with_carrier_at 1 true (port_in ports 1) v).ports) is
    ∙ (originated_if_changed_ports (record v { ports = slice_set v.ports 0 (first_port m) })
    ∙ ap (λ (ports : List BridgePort). slice_set ports 0 (first_port m)) is)

-- then it sends a hello alone
hello_sent : (v : BridgeView) (m : ℕ) → v.ports ≡ first_port m ∷ [] → sent_in_tick v ≡ (1, hello_frame (readied v).id.system 1 (first_port m)) ∷ []
unfolding sent_in_tick
hello_sent v m is =
    ap (λ (ports : List BridgePort). sent_from (readied v).id.system 1 ports (readied v).database) (refreshed_ports (expired (counts_lowered v)) ∙ ap (map later) is)

-- a bridge that was configured with one port, whose link then got a metric and came up
abbrev pub with_first_carrier : BridgeConfig → ℕ → BridgeView
with_first_carrier c n = with_carrier 1 true (with_metric 1 n (configured c))

pub first_ports : (c : BridgeConfig) (m n : ℕ) → c.metrics ≡ m ∷ [] → (with_first_carrier c n).ports ≡ first_port n ∷ []
first_ports c m n is = with_carrier_port (with_metric 1 n (configured c)) n (with_metric_port (configured c) m n (configured_ports c ∙ ap (map port_without_carrier) is))

pub first_still : (c : BridgeConfig) (n : ℕ) → IsStill (bare c) (with_first_carrier c n)
first_still c n =
    let carriers_up = steps_keep_bridge (carrier 1 true) (with_metric 1 n (configured c)) in
    let told = steps_keep_bridge (metric 1 n) (configured c) in
    let still = configured_still c in
    record { id = carriers_up.id ∙ (told.id ∙ still.id); source = carriers_up.source ∙ (told.source ∙ still.source); vids = carriers_up.vids ∙ (told.vids ∙ still.vids) }

-- what it sends first
pub first_hello : (c : BridgeConfig) (m n : ℕ) → c.metrics ≡ m ∷ [] → (bytes : List ℕ) × (sent_in_tick (with_first_carrier c n) ≡ (1, bytes) ∷ [])
first_hello c m n is = (hello_frame (readied (with_first_carrier c n)).id.system 1 (first_port n), hello_sent (with_first_carrier c n) n (first_ports c m n is))

-- and that is heard as a hello
pub record IsHello (bytes : List ℕ) : Type 0 where
  pub hello : HelloValue
  pub way : ThreeWay
  pub heard : parsed bytes ≡ parsing.hello hello way

carriers_carrier : (v : BridgeView) (m : ℕ) → v.ports ≡ first_port m ∷ [] → has_carrier_at v 1 ≡ true
unfolding has_carrier_at
carriers_carrier v m is = ap (λ (ports : List BridgePort). has_carrier_in (port_in ports 1)) is

carriers_alone : (v : BridgeView) (m : ℕ) → v.ports ≡ first_port m ∷ [] → neighbour_at v 1 ≡ None
unfolding neighbour_at
carriers_alone v m is = ap (λ (ports : List BridgePort). option_and_then (λ port. neighbour_of port.adjacency) (port_in ports 1)) is

none_some : (n : End) → None ≡ Some n → ⊥
none_some n h = cc

not_kept : (v : BridgeView) → neighbour_at v 1 ≡ None → (n : End) → neighbour_at (step second v) 1 ≡ Some n → ⊥
not_kept v none n kept = elim (steps_keep_neighbours second v 1 n kept) [
  | inl before ↦ absurd (none_some n (sym none ∙ before))
  | inr heard ↦ heard
]

nobody : (o : Option End) → ((n : End) → o ≡ Some n → ⊥) → IsNamed o
nobody None none = tt
nobody (Some n) none = absurd (none n refl)

only_sent : (s : List (ℕ × List ℕ)) (bytes other : List ℕ) → s ≡ (1, bytes) ∷ [] → IsSent s 1 other → bytes ≡ other
only_sent s bytes other is some = elim (subst (λ (fs : List (ℕ × List ℕ)). IsSent fs 1 other) is some) [
  | inl first ↦ first.1
  | inr none ↦ absurd none
]

pub first_heard : (c : BridgeConfig) (m n : ℕ) (is : c.metrics ≡ m ∷ []) → IsSoundView (with_first_carrier c n) → IsHello (first_hello c m n is).0
first_heard c m n is sound =
    let v : BridgeView = with_first_carrier c n in
    let ports = first_ports c m n is in
    let named : IsNamed (neighbour_at (step second v) 1) = nobody (neighbour_at (step second v) 1) (not_kept v (carriers_alone v n ports)) in
    let said : IsHelloHeard v 1 = hellos_are_heard v 1 sound (carriers_carrier v n ports) named in
    let hello = first_hello c m n is in
    record { hello = said.hello; way = said.way; heard = ap parsed (only_sent _ _ _ hello.1 said.sent) ∙ said.heard }
