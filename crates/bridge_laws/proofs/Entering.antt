-- Entering Up is one operation: a port that is Up was so before with the same neighbour, or everything is to be sent there.
use Rattle.std.proofs.Common.{◌≡◌, ◌⊎◌, inl, inr, ◌≤◌, ◌-◌, ℕ, Bool, true, false, List, [], ◌∷◌, length, refl, sym, ap, ◌∙◌, subst, Option, Some, None}
use Rattle.std.specs.Prelude.{slice_set, if◌then◌else◌, ◌++◌}
use Rattle.std.specs.Option.{option_map, option_and_then}
use Rattle.std.specs.FinMap.{get}
use Rattle.spb_types.specs.declared.address.LspId.{LspId}
use Rattle.spb_types.specs.Ports.{has}
use Rattle.spb_types.proofs.PortLemmas.{has-no_ports, has-with_same, has-without_same}
use Rattle.isis_pdu.specs.Pdu.{HelloValue}
use Rattle.spb_tlvs.specs.declared.three_way.ThreeWay.{ThreeWay}
use Rattle.lsdb.specs.declared.version.Version.{Version}
use Rattle.lsdb.specs.declared.version.Version.TheVariants.{Absent, Live, Dead}
use Rattle.lsdb.specs.Version.{is_absent}
use Rattle.lsdb.specs.Entry.{Entry, srm_set_at, flagged, flags_cleared_at}
use Rattle.lsdb.specs.Database.{Lsps, version_in, srm_in, ssn_in, each}
use Rattle.lsdb.proofs.LookupLemmas.{get-each}
use Rattle.flooding.specs.Entries.{AllEntries}
use Rattle.flooding.specs.Settling.{says}
use Rattle.flooding.proofs.Settled.{settling_keeps_silence}
use Rattle.adjacency.specs.declared.state.AdjacencyChange.{AdjacencyChange}
use Rattle.adjacency.specs.declared.state.AdjacencyChange.TheVariants as did
use Rattle.adjacency.specs.declared.port.Adjacency.{Adjacency}
use Rattle.adjacency.specs.Hearing.{End, is_discarded}
use Rattle.adjacency.specs.Adjacency.{neighbour_of, is_up, after_hello_heard, after_hello, change_by_hello, after_carrier, change_of}
use Rattle.bridge_api.specs.declared.port.BridgePort.{BridgePort}
use Rattle.bridge_api.specs.View.{BridgeView, port_in, port_at, neighbour_at, is_port_up, is_up_in, is_up_at, is_csnp_due_in, is_csnp_due_at, up_ports}
use Rattle.bridge_api.specs.Own.{holding_of, originated_if_changed}
use Rattle.bridge_api.specs.Hearing.{with_csnp_due, with_adjacency, left_up, all_srm_set_at, entered_up, changed_at, heard_hello, after_receive, with_carrier_at, with_carrier, with_port_metric, with_metric}
use Rattle.bridge_api.specs.Ports.{noted}
use Rattle.bridge_api.specs.Ticking.{after_tick}
use Rattle.bridge_api.specs.Customers.{after_entry}
use Rattle.bridge_api.specs.Services.{with_attached, without_customer_port, with_port_forgotten}
use Rattle.bridge_api.specs.Step.{second, frame, carrier, metric, attach, detach, customer}
use Rattle.bridge_api.specs.Laws.{IsFresh, EnteringUpIsWhole}
use Rattle.bridge_api.proofs.Adjacent.{kept_whole, not_discarded, second_up, up_since}
use Rattle.bridge_api.proofs.Changes.{one_port, changed_ports, frame_ports, carrier_step, metric_step, with_metric_ports, ticked, tick_port, with_attached_ports}
use Rattle.bridge_api.proofs.Certified.{noted_keeps}
use Rattle.bridge_laws.proofs.StepsCarry.{Stood, stood}

-- it was Up before with the same neighbour, or is fresh
abbrev Enters : BridgeView → BridgeView → ℕ → Type 0
Enters v w p = ((is_up_at v p ≡ true) × (neighbour_at w p ≡ neighbour_at v p)) ⊎ IsFresh w p

abbrev neighbour_in : Option BridgePort → Option End
neighbour_in o = option_and_then (λ (port : BridgePort). neighbour_of port.adjacency) o

-- a port that stays as it was
same_port : (v w : BridgeView) (p : ℕ) → port_at w p ≡ port_at v p → is_up_at w p ≡ true → Enters v w p
unfolding is_up_at neighbour_at
same_port v w p same up = inl (sym (ap is_up_in same) ∙ up, ap neighbour_in same)

-- ---- a port that came up

srm_set_flagged : (q : ℕ) (e : Entry) (a : Version) → 1 ≤ q → q ≤ 32 → e.version ≡ a → (has (if is_absent a then e else flagged q e).srm q ≡ true) ⊎ ((if is_absent a then e else flagged q e).version ≡ Absent)
srm_set_flagged q e Absent low high is = inr is
srm_set_flagged q e (Live seq sum) low high is = inl (has-with_same e.srm q low high)
srm_set_flagged q e (Dead seq) low high is = inl (has-with_same e.srm q low high)

srm_set_in : (q : ℕ) (o : Option Entry) → 1 ≤ q → q ≤ 32 → (has (srm_in (option_map (srm_set_at q) o)) q ≡ true) ⊎ (version_in (option_map (srm_set_at q) o) ≡ Absent)
srm_set_in q None low high = inr refl
srm_set_in q (Some e) low high = srm_set_flagged q e e.version low high refl

-- ---- nothing is to be acknowledged or asked for there

-- no SSN flag stands at the port
abbrev IsSilent : ℕ → Lsps → Type 0
IsSilent q db = AllEntries (λ id e. has e.ssn q ≡ false) db

-- on leaving Up
flags_cleared_in : (q : ℕ) (o : Option Entry) → 1 ≤ q → q ≤ 32 → has (ssn_in (option_map (flags_cleared_at q) o)) q ≡ false
flags_cleared_in q None low high = has-no_ports q
flags_cleared_in q (Some e) low high = has-without_same e.ssn q low high

left_silent : (q : ℕ) (db : Lsps) → 1 ≤ q → q ≤ 32 → IsSilent q (each (λ id e. flags_cleared_at q e) db)
left_silent q db low high x e is =
    sym (ap (λ (o : Option Entry). has (ssn_in o) q) is)
    ∙ (ap (λ (o : Option Entry). has (ssn_in o) q) (get-each (λ (id : LspId) (e : Entry). flags_cleared_at q e) db x) ∙ flags_cleared_in q (get db x) low high)

-- an origination sets no SSN flag
originated_if_changed_silent : (q : ℕ) (v : BridgeView) → IsSilent q v.database → IsSilent q (originated_if_changed v).database
unfolding originated_if_changed
originated_if_changed_silent q v silent = settling_keeps_silence says (up_ports v) (holding_of v) q silent

-- nor does entering Up
srm_set_ssn : (q : ℕ) (e : Entry) (b : Bool) → has e.ssn q ≡ false → has (if b then e else flagged q e).ssn q ≡ false
srm_set_ssn q e true off = off
srm_set_ssn q e false off = off

srm_set_silent_in : (q : ℕ) (o : Option Entry) → ((e : Entry) → o ≡ Some e → has e.ssn q ≡ false) → has (ssn_in (option_map (srm_set_at q) o)) q ≡ false
srm_set_silent_in q None all = has-no_ports q
srm_set_silent_in q (Some e) all = srm_set_ssn q e (is_absent e.version) (all e refl)

srm_set_silent : (q : ℕ) (db : Lsps) (x : LspId) → IsSilent q db → has (ssn_in (get (each (λ id e. srm_set_at q e) db) x)) q ≡ false
srm_set_silent q db x silent = ap (λ (o : Option Entry). has (ssn_in o) q) (get-each (λ (id : LspId) (e : Entry). srm_set_at q e) db x) ∙ srm_set_silent_in q (get db x) (silent x)

entering_fresh : (q : ℕ) (old new : BridgePort) (v : BridgeView) (p : ℕ) → Stood v q old → p ≡ q → port_at (entered_up q new v) p ≡ Some (with_csnp_due true new) → IsFresh (entered_up q new v) p
unfolding is_csnp_due_at
entering_fresh q old new v p at here there =
    let u : BridgeView = originated_if_changed (left_up q new v) in
    record {
      csnp_due = ap is_csnp_due_in there;
      flagged = λ id. subst (λ (k : ℕ). (has (srm_in (get (all_srm_set_at q new u).database id)) k ≡ true) ⊎ (version_in (get (all_srm_set_at q new u).database id) ≡ Absent)) (sym here)
          (subst (λ (o : Option Entry). (has (srm_in o) q ≡ true) ⊎ (version_in o ≡ Absent)) (sym (get-each (λ (x : LspId) (e : Entry). srm_set_at q e) u.database id)) (srm_set_in q (get u.database id) at.low at.high));
      silent = λ id. subst (λ (k : ℕ). has (ssn_in (get (all_srm_set_at q new u).database id)) k ≡ false) (sym here)
          (srm_set_silent q u.database id (originated_if_changed_silent q (left_up q new v) (left_silent q v.database at.low at.high)));
    }

-- ---- something came to pass at a port

-- where the port is Up afterwards, it came up or was Up with the same neighbour
abbrev Explains : AdjacencyChange → BridgePort → BridgePort → Type 0
Explains heard old new = is_port_up new ≡ true → (heard ≡ did.CameUp) ⊎ ((is_port_up old ≡ true) × (neighbour_of new.adjacency ≡ neighbour_of old.adjacency))

changed_here : (heard : AdjacencyChange) (q : ℕ) (old new : BridgePort) (v : BridgeView) (p : ℕ) → Stood v q old → Explains heard old new → p ≡ q → port_at (changed_at heard q new v) p ≡ Some (noted heard new) → is_up_at (changed_at heard q new v) p ≡ true
    → port_at v p ≡ Some old → Enters v (changed_at heard q new v) p
unfolding is_up_at neighbour_at
changed_here heard q old new v p at why here there up before =
    let keeps : (noted heard new).adjacency ≡ new.adjacency = noted_keeps heard new in
    let is_up_now : is_port_up new ≡ true = sym (ap (λ (a : Adjacency). is_up a.state) keeps) ∙ (sym (ap is_up_in there) ∙ up) in
    elim (why is_up_now) [
      | inl came ↦
          let there' : port_at (entered_up q new v) p ≡ Some (with_csnp_due true new) = subst (λ (h : AdjacencyChange). port_at (changed_at h q new v) p ≡ Some (noted h new)) came there in
          inr (subst (λ (h : AdjacencyChange). IsFresh (changed_at h q new v) p) (sym came) (entering_fresh q old new v p at here there'))
      | inr was ↦ inl (ap is_up_in before ∙ was.0, ap neighbour_in there ∙ (ap neighbour_of keeps ∙ (was.1 ∙ sym (ap neighbour_in before))))
    ]

changed_enters : (heard : AdjacencyChange) (q : ℕ) (old new : BridgePort) (v : BridgeView) (p : ℕ) → length v.ports ≤ 32 → port_at v q ≡ Some old → (heard ≡ did.Discarded → new ≡ old) → Explains heard old new
    → is_up_at (changed_at heard q new v) p ≡ true → Enters v (changed_at heard q new v) p
changed_enters heard q old new v p few there whole why up =
    let at : Stood v q old = stood v q old few there in
    let ports : (changed_at heard q new v).ports ≡ slice_set v.ports (q - 1) (noted heard new) = changed_ports heard q old new v at.is whole in
    elim (one_port v.ports q old (noted heard new) p at.low at.is) [
      | inl here ↦ changed_here heard q old new v p at why here.0 (ap (λ (list : List BridgePort). port_in list p) ports ∙ here.1) up (ap (λ (k : ℕ). port_in v.ports k) here.0 ∙ there)
      | inr same ↦ same_port v (changed_at heard q new v) p (ap (λ (list : List BridgePort). port_in list p) ports ∙ same) up
    ]

hello_explains : (discarded : Bool) (h : HelloValue) (way : ThreeWay) (port : BridgePort) → Explains (if discarded then did.Discarded else change_of port.adjacency (after_hello_heard h way port.adjacency)) port (with_adjacency (if discarded then port.adjacency else after_hello_heard h way port.adjacency) port)
hello_explains true h way port up = inr (up, refl)
hello_explains false h way port up = up_since port.adjacency (after_hello_heard h way port.adjacency) up

heard_hello_enters : (h : HelloValue) (way : ThreeWay) (q : ℕ) (port : BridgePort) (v : BridgeView) (p : ℕ) → length v.ports ≤ 32 → port_at v q ≡ Some port → is_up_at (heard_hello h way q port v) p ≡ true → Enters v (heard_hello h way q port v) p
heard_hello_enters h way q port v p few there up =
    let a : Adjacency = port.adjacency in
    changed_enters (change_by_hello v.id.system q h way a) q port (with_adjacency (after_hello v.id.system q h way a) port) v p few there
    (λ e. ap (λ (b : Adjacency). with_adjacency b port) (kept_whole v.id.system q h way a e))
    (hello_explains (is_discarded v.id.system q h way) h way port) up

with_carrier_enters : (q : ℕ) (on : Bool) (port : BridgePort) (v : BridgeView) (p : ℕ) → length v.ports ≤ 32 → port_at v q ≡ Some port → is_up_at (with_carrier_at q on (Some port) v) p ≡ true → Enters v (with_carrier_at q on (Some port) v) p
with_carrier_enters q on port v p few there up =
    let a : Adjacency = port.adjacency in
    changed_enters (change_of a (after_carrier on a)) q port (with_adjacency (after_carrier on a) port) v p few there
    (λ e. absurd (not_discarded a (after_carrier on a) e)) (up_since a (after_carrier on a)) up

-- ---- every step

tick_up_in : (o : Option BridgePort) → is_up_in (option_map ticked o) ≡ true → (is_up_in o ≡ true) × (neighbour_in (option_map ticked o) ≡ neighbour_in o)
tick_up_in None up = absurd cc
tick_up_in (Some port) up = second_up port.adjacency up

tick_enters : (v : BridgeView) (p : ℕ) → is_up_at (after_tick v) p ≡ true → Enters v (after_tick v) p
unfolding is_up_at neighbour_at
tick_enters v p up =
    let before = tick_up_in (port_at v p) (sym (ap is_up_in (tick_port v p)) ∙ up) in
    inl (before.0, ap neighbour_in (tick_port v p) ∙ before.1)

-- from a bridge that is this one
from_same : (v w u : BridgeView) (p : ℕ) → w ≡ u → (is_up_at u p ≡ true → Enters v u p) → is_up_at w p ≡ true → Enters v w p
from_same v w u p e enters up = subst (λ (x : BridgeView). Enters v x p) (sym e) (enters (subst (λ (x : BridgeView). is_up_at x p ≡ true) e up))

with_metric_enters : (q m : ℕ) (port : BridgePort) (v u : BridgeView) (p : ℕ) → length v.ports ≤ 32 → port_at v q ≡ Some port → u.ports ≡ slice_set v.ports (q - 1) (with_port_metric m port) → is_up_at u p ≡ true → Enters v u p
unfolding is_up_at neighbour_at
with_metric_enters q m port v u p few there ports up =
    let at : Stood v q port = stood v q port few there in
    let list : port_at u p ≡ port_in (slice_set v.ports (q - 1) (with_port_metric m port)) p = ap (λ (l : List BridgePort). port_in l p) ports in
    elim (one_port v.ports q port (with_port_metric m port) p at.low at.is) [
      | inl here ↦
          let now : port_at u p ≡ Some (with_port_metric m port) = list ∙ here.1 in
          let before : port_at v p ≡ Some port = ap (λ (k : ℕ). port_in v.ports k) here.0 ∙ there in
          inl (ap is_up_in before ∙ (sym (ap is_up_in now) ∙ up), ap neighbour_in now ∙ sym (ap neighbour_in before))
      | inr same ↦ same_port v u p (list ∙ same) up
    ]

pub entering_up_is_whole : EnteringUpIsWhole
unfolding with_port_forgotten after_entry
entering_up_is_whole second v p was up = tick_enters v p up
entering_up_is_whole (frame q bytes) v p was up =
    elim (frame_ports v q bytes) [
      | inl same ↦ same_port v (after_receive q bytes v) p (ap (λ (list : List BridgePort). port_in list p) same) up
      | inr g ↦ from_same v (after_receive q bytes v) (heard_hello g.hello g.way q g.port v) p g.after (heard_hello_enters g.hello g.way q g.port v p was.few g.there) up
    ]
entering_up_is_whole (carrier q on) v p was up =
    elim (carrier_step v q on) [
      | inl e ↦ same_port v (with_carrier q on v) p (ap (λ (u : BridgeView). port_at u p) e) up
      | inr g ↦ from_same v (with_carrier q on v) (with_carrier_at q on (Some g.port) v) p g.after (with_carrier_enters q on g.port v p was.few g.there) up
    ]
entering_up_is_whole (metric q m) v p was up =
    elim (metric_step v q m) [
      | inl e ↦ same_port v (with_metric q m v) p (ap (λ (u : BridgeView). port_at u p) e) up
      | inr g ↦ with_metric_enters q m g.port v (with_metric q m v) p was.few g.there (ap (λ (u : BridgeView). u.ports) g.after ∙ with_metric_ports q m g.port v) up
    ]
entering_up_is_whole (attach a) v p was up = same_port v (with_attached (v.attached ++ a ∷ []) v) p (ap (λ (list : List BridgePort). port_in list p) (with_attached_ports (v.attached ++ a ∷ []) v)) up
entering_up_is_whole (detach q) v p was up =
    same_port v (with_attached (without_customer_port q v.attached) (with_port_forgotten q v)) p (ap (λ (list : List BridgePort). port_in list p) (with_attached_ports (without_customer_port q v.attached) (with_port_forgotten q v))) up
entering_up_is_whole (customer q bytes) v p was up = same_port v (after_entry q bytes v) p refl up
