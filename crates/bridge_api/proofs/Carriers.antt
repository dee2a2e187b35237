-- Carrier changes by a change of carrier alone.
use Rattle.std.proofs.Common.{◌≡◌, inl, inr, ◌<◌, ◌-◌, ℕ, zero, suc, Bool, true, false, List, [], ◌∷◌, length, refl, sym, ap, ◌∙◌, Option, Some, None, arith}
use Rattle.std.specs.Prelude.{slice_get, slice_set, ◌==◌, if◌then◌else◌, ◌++◌}
use Rattle.std.specs.Option.{option_map}
use Rattle.std.proofs.lemmas.Bool.{eqb-true, eqb-false, le-leb}
use Rattle.std.proofs.lemmas.Option.{slice_get_within}
use Rattle.isis_pdu.specs.Pdu.{HelloValue}
use Rattle.spb_tlvs.specs.declared.three_way.ThreeWay.{ThreeWay}
use Rattle.adjacency.specs.declared.state.AdjState.{AdjState}
use Rattle.adjacency.specs.declared.state.AdjState.TheVariants.{Down, Initializing, Up}
use Rattle.adjacency.specs.declared.port.Adjacency.{Adjacency}
use Rattle.adjacency.specs.States.{next_state, state_numbered}
use Rattle.adjacency.specs.Hearing.{sender, is_discarded}
use Rattle.adjacency.specs.Adjacency.{down, is_down, led_to, state_towards, after_hello, after_carrier, change_of, change_by_hello}
use Rattle.bridge_api.specs.declared.port.BridgePort.{BridgePort}
use Rattle.bridge_api.specs.View.{BridgeView, IsPort, port_in, port_at, has_carrier_in, has_carrier_at}
use Rattle.bridge_api.specs.Hearing.{with_adjacency, after_receive, with_carrier_at, with_carrier, with_port_metric}
use Rattle.bridge_api.specs.Ports.{heard_hello_port, with_carrier_port}
use Rattle.bridge_api.specs.Ticking.{later}
use Rattle.bridge_api.specs.Customers.{after_entry}
use Rattle.bridge_api.specs.Services.{without_customer_port, with_port_forgotten}
use Rattle.bridge_api.specs.Step.{second, frame, carrier, metric, attach, detach, customer}
use Rattle.bridge_api.specs.Laws.{StepsKeepCarrier}
use Rattle.bridge_api.proofs.Places.{port_found, got_at}
use Rattle.bridge_api.proofs.Changes.{found, one_port, frame_ports, heard_hello_ports, with_carrier_ports, metric_step, with_metric_ports, ticked, tick_port, with_attached_ports}
use Rattle.bridge_api.proofs.Certified.{noted_keeps}

later_carrier_at : (idle ended : Bool) (a : Adjacency) → (if idle then a else (if ended then down a.carrier else record a { hold = a.hold - 1 })).carrier ≡ a.carrier
later_carrier_at true ended a = refl
later_carrier_at false true a = refl
later_carrier_at false false a = refl

-- a second changes no carrier
pub later_carrier : (port : BridgePort) → (later port).adjacency.carrier ≡ port.adjacency.carrier
later_carrier port = later_carrier_at (is_down port.adjacency.state) (port.adjacency.hold == 1) port.adjacency

-- after a hello there is carrier, as before
led_with_carrier : (s : AdjState) (h : HelloValue) (way : ThreeWay) → (led_to s h way).carrier ≡ true
led_with_carrier Down h way = refl
led_with_carrier Initializing h way = refl
led_with_carrier Up h way = refl

carrier_heard_at : (discarded ended : Bool) (s : AdjState) (h : HelloValue) (way : ThreeWay) (a : Adjacency) → a.carrier ≡ true → (if discarded then a else (if ended then down true else led_to s h way)).carrier ≡ true
carrier_heard_at true ended s h way a has_carrier = has_carrier
carrier_heard_at false true s h way a has_carrier = refl
carrier_heard_at false false s h way a has_carrier = led_with_carrier s h way

hello_keeps_carrier : (v : BridgeView) (q : ℕ) (h : HelloValue) (way : ThreeWay) (port : BridgePort) → port.adjacency.carrier ≡ true → (heard_hello_port v.id.system q h way port).adjacency.carrier ≡ true
hello_keeps_carrier v q h way port has_carrier =
    let a : Adjacency = port.adjacency in
    ap (λ (b : Adjacency). b.carrier) (noted_keeps (change_by_hello v.id.system q h way a) (with_adjacency (after_hello v.id.system q h way a) port))
    ∙ carrier_heard_at (is_discarded v.id.system q h way) (h.holding == 0) (next_state (state_towards (sender h way) a) (state_numbered way.state)) h way a has_carrier

carrier_stands : (on : Bool) (port : BridgePort) → (with_carrier_port on port).adjacency.carrier ≡ on
carrier_stands true port = ap (λ (b : Adjacency). b.carrier) (noted_keeps (change_of port.adjacency (after_carrier true port.adjacency)) (with_adjacency (after_carrier true port.adjacency) port))
carrier_stands false port = ap (λ (b : Adjacency). b.carrier) (noted_keeps (change_of port.adjacency (after_carrier false port.adjacency)) (with_adjacency (after_carrier false port.adjacency) port))

ticked_carrier : (o : Option BridgePort) → has_carrier_in (option_map ticked o) ≡ has_carrier_in o
ticked_carrier None = refl
ticked_carrier (Some port) = later_carrier port

-- a port that the bridge has is found
not_none : (ports : List BridgePort) (i : ℕ) → i < length ports → slice_get ports i ≡ None → ⊥
not_none [] i within e = absurd (omega arith)
not_none (x ∷ ports) zero within e = cc
not_none (x ∷ ports) (suc i) within e = not_none ports i (omega arith) e

is_found : (v : BridgeView) (p : ℕ) → IsPort v p → port_at v p ≡ None → ⊥
is_found v p is e = not_none v.ports (p - 1) (omega (arith, is.low, is.high)) (sym (port_found v p is.low) ∙ e)

-- carrier came or went at port q, which is port p or not
carrier_of : (here : Bool) (v : BridgeView) (q : ℕ) (on : Bool) (port : BridgePort) (p : ℕ) → (p == q) ≡ here → port_at v q ≡ Some port → has_carrier_in (port_in (slice_set v.ports (q - 1) (with_carrier_port on port)) p) ≡ (if here then on else has_carrier_in (port_at v p))
carrier_of true v q on port p e there =
    let at = found v.ports q port there in
    let same : p ≡ q = eqb-true p q e in
    rw (same, le-leb 1 q at.0) (ap has_carrier_in (got_at v.ports (q - 1) (with_carrier_port on port) (slice_get_within v.ports (q - 1) port at.1)) ∙ carrier_stands on port)
carrier_of false v q on port p e there =
    let at = found v.ports q port there in
    elim (one_port v.ports q port (with_carrier_port on port) p at.0 at.1) [
      | inl here ↦ absurd (eqb-false p q e here.0)
      | inr same ↦ ap has_carrier_in same
    ]

carrier_of_none : (here : Bool) (v : BridgeView) (q : ℕ) (on : Bool) (p : ℕ) → (p == q) ≡ here → IsPort v p → port_at v q ≡ None → has_carrier_in (port_at v p) ≡ (if here then on else has_carrier_in (port_at v p))
carrier_of_none true v q on p e is none = absurd (is_found v p is (ap (port_at v) (eqb-true p q e) ∙ none))
carrier_of_none false v q on p e is none = refl

carrier_of_found : (o : Option BridgePort) (v : BridgeView) (q : ℕ) (on : Bool) (p : ℕ) → IsPort v p → port_at v q ≡ o → has_carrier_in (port_at (with_carrier_at q on o v) p) ≡ (if p == q then on else has_carrier_in (port_at v p))
carrier_of_found None v q on p is none = carrier_of_none (p == q) v q on p refl is none
carrier_of_found (Some port) v q on p is there = ap (λ (ports : List BridgePort). has_carrier_in (port_in ports p)) (with_carrier_ports q on port v there) ∙ carrier_of (p == q) v q on port p refl there

pub steps_keep_carrier : StepsKeepCarrier
unfolding has_carrier_at with_carrier with_port_forgotten after_entry
steps_keep_carrier second v p is = ap has_carrier_in (tick_port v p) ∙ ticked_carrier (port_at v p)
steps_keep_carrier (frame q bytes) v p is =
    elim (frame_ports v q bytes) [
      | inl e ↦ ap (λ (list : List BridgePort). has_carrier_in (port_in list p)) e
      | inr g ↦
          let at = found v.ports q g.port g.there in
          let ports : (after_receive q bytes v).ports ≡ slice_set v.ports (q - 1) (heard_hello_port v.id.system q g.hello g.way g.port) = ap (λ (u : BridgeView). u.ports) g.after ∙ heard_hello_ports g.hello g.way q g.port v g.there in
          ap (λ (list : List BridgePort). has_carrier_in (port_in list p)) ports
          ∙ elim (one_port v.ports q g.port (heard_hello_port v.id.system q g.hello g.way g.port) p at.0 at.1) [
            | inl here ↦ ap has_carrier_in here.1 ∙ (hello_keeps_carrier v q g.hello g.way g.port g.carrier ∙ sym (ap (λ (k : ℕ). has_carrier_in (port_in v.ports k)) here.0 ∙ (ap has_carrier_in g.there ∙ g.carrier)))
            | inr same ↦ ap has_carrier_in same
          ]
    ]
steps_keep_carrier (carrier q on) v p is = carrier_of_found (port_at v q) v q on p is refl
steps_keep_carrier (metric q m) v p is =
    elim (metric_step v q m) [
      | inl e ↦ ap (λ (u : BridgeView). has_carrier_in (port_at u p)) e
      | inr g ↦
          let at = found v.ports q g.port g.there in
          ap (λ (list : List BridgePort). has_carrier_in (port_in list p)) (ap (λ (u : BridgeView). u.ports) g.after ∙ with_metric_ports q m g.port v)
          ∙ elim (one_port v.ports q g.port (with_port_metric m g.port) p at.0 at.1) [
            | inl here ↦ ap has_carrier_in here.1 ∙ sym (ap (λ (k : ℕ). has_carrier_in (port_in v.ports k)) here.0 ∙ ap has_carrier_in g.there)
            | inr same ↦ ap has_carrier_in same
          ]
    ]
steps_keep_carrier (attach a) v p is = ap (λ (list : List BridgePort). has_carrier_in (port_in list p)) (with_attached_ports (v.attached ++ a ∷ []) v)
steps_keep_carrier (detach q) v p is = ap (λ (list : List BridgePort). has_carrier_in (port_in list p)) (with_attached_ports (without_customer_port q v.attached) (with_port_forgotten q v))
steps_keep_carrier (customer q bytes) v p is = refl
