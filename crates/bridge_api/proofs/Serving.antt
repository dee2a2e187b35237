-- In each second all is sent that is to be sent, and nothing is due or has SSN afterwards.
use Rattle.std.proofs.Common.{◌≡◌, ◌≢◌, ◌≤◌, ◌+◌, ◌-◌, ℕ, zero, suc, Bool, true, false, List, [], ◌∷◌, ◌++◌, map, length, refl, sym, ap, ◌∙◌, subst, Option, Some, None, inl, inr, arith}
use Rattle.std.specs.Prelude.{nat_le, slice_get, if◌then◌else◌}
use Rattle.std.specs.Option.{option_map}
use Rattle.std.specs.FinMap.{get, entries}
use Rattle.std.proofs.lemmas.Bool.{false≢true}
use Rattle.std.proofs.lemmas.List.{length-map}
use Rattle.std.proofs.lemmas.Option.{slice_get-map}
use Rattle.spb_types.specs.declared.address.SystemId.{SystemId}
use Rattle.spb_types.specs.declared.address.LspId.{LspId}
use Rattle.spb_types.specs.Ports.{has}
use Rattle.spb_types.proofs.PortLemmas.{has-no_ports}
use Rattle.isis_pdu.specs.Pdu.{CsnpValue, PsnpValue}
use Rattle.lsdb.specs.Entry.{Entry}
use Rattle.lsdb.specs.Database.{Lsps, ssn_in}
use Rattle.flooding.specs.Sending.{lsp_in, lsps_to_send}
use Rattle.snp_sync.specs.Sending.{csnps_of, psnps_of}
use Rattle.spb_content.proofs.Members.{Has, has_all, has_map, has_filter}
use Rattle.bridge_api.specs.declared.port.BridgePort.{BridgePort}
use Rattle.bridge_api.specs.View.{BridgeView, port_at, is_port_up, is_up_in, is_up_at, is_csnp_due_in, is_csnp_due_at, up_ports}
use Rattle.bridge_api.specs.Hearing.{with_csnp_due}
use Rattle.bridge_api.specs.Ticking.{later, readied, lsp_frame, csnp_frame, psnp_frame, hellos_at, summaries_at, lsps_at, requests_at, synced_at, sent_at, sent_from, sent_by, after_sending_at, after_sending_from, after_sending, sent_in_tick}
use Rattle.bridge_api.specs.Laws.{IsSent, IsSoundView}
use Rattle.bridge_api.specs.Duties.{IsServedAt, SecondsServe, but_for_ssn, HasNothingDue, SecondsLeaveNothingDue}
use Rattle.bridge_api.proofs.Changes.{found, readied_ports, tick_is, when_true}
use Rattle.bridge_api.proofs.Hellos.{sent_left, sent_right}
use Rattle.bridge_api.proofs.Data.{IsSoundData, Holds, up_at, after_sending_from_keeps}
use Rattle.bridge_api.proofs.DataSteps.{readied_holds}
use Rattle.bridge_api.proofs.GraphRead.{get_has}
use Rattle.bridge_api.proofs.ServingPorts.{still_synced, stays_clear, after_sending_clears, after_sending_holds}

-- ---- a port that is Up

record UpPort (v : BridgeView) (p : ℕ) : Type 0 where
  port : BridgePort
  there : port_at v p ≡ Some port
  up : is_port_up port ≡ true

up_port : (v : BridgeView) (p : ℕ) (o : Option BridgePort) → port_at v p ≡ o → is_up_in o ≡ true → UpPort v p
up_port v p None there up = absurd (false≢true up)
up_port v p (Some port) there up = record { port = port; there = there; up = up }

few_ready : (v : BridgeView) → IsSoundView v → length (readied v).ports ≤ 32
few_ready v was =
    let many : length (readied v).ports ≡ length v.ports = ap length (readied_ports v) ∙ length-map v.ports later in
    omega (arith, many, was.few)

-- ---- what is sent

-- all that is sent at a port after its hello is among the frames of all ports, of which the first has number q
served_from : (system : SystemId) (q : ℕ) (ports : List BridgePort) (db : Lsps) (place p : ℕ) (port : BridgePort) (bytes : List ℕ) → 1 ≤ q → q + length ports ≤ 33 → p ≡ q + place → slice_get ports place ≡ Some port
    → IsSent (synced_at system p port db) p bytes → IsSent (sent_from system q ports db) p bytes
served_from system q [] db place p port bytes low few number at some = absurd cc
served_from system q (x ∷ ports) db zero p port bytes low few number at some =
    let same : port ≡ x = cc in
    let first : p ≡ q = omega (arith, number) in
    let here : IsSent (synced_at system q x db) p bytes = subst (λ (k : ℕ). IsSent (synced_at system k x db) p bytes) first (subst (λ (y : BridgePort). IsSent (synced_at system p y db) p bytes) same some) in
    sent_left (sent_at system q x db) (sent_from system (q + 1) ports (after_sending_at q x db)) p bytes (sent_right (hellos_at system q x) (synced_at system q x db) p bytes here)
served_from system q (x ∷ ports) db (suc place) p port bytes low few number at some =
    let high : q ≤ 32 = omega (arith, few) in
    let apart : p ≢ q = omega (arith, number) in
    sent_right (sent_at system q x db) (sent_from system (q + 1) ports (after_sending_at q x db)) p bytes
    (served_from system (q + 1) ports (after_sending_at q x db) place p port bytes (omega arith) (omega (arith, few)) (omega (arith, number)) at
    (subst (λ (frames : List (ℕ × List ℕ)). IsSent frames p bytes) (sym (still_synced system p q low high apart db x port)) some))

sent_map : {X : Type 0} (p : ℕ) (f : X → List ℕ) (x : X) (xs : List X) → Has x xs → IsSent (map (λ (y : X). (p, f y)) xs) p (f x)
sent_map p f x [] none = absurd none
sent_map p f x (y ∷ ys) (inl same) = inl (refl, ap f (sym same))
sent_map p f x (y ∷ ys) (inr some) = inr (sent_map p f x ys some)

lsp_sent : (system : SystemId) (p : ℕ) (db : Lsps) (id : LspId) (e : Entry) → get db id ≡ Some e → has e.srm p ≡ true → IsSent (lsps_at system p db) p (lsp_frame system (lsp_in id e))
lsp_sent system p db id e held flagged =
    let among : Has (lsp_in id e) (lsps_to_send db p) =
    has_map (λ (d : LspId × Entry). lsp_in d.0 d.1) (id, e) _ (has_filter (λ (d : LspId × Entry). has d.1.srm p) (id, e) (entries db) (get_has db id e held) flagged) in
    sent_map p (lsp_frame system) (lsp_in id e) (lsps_to_send db p) among

summary_sent : (system : SystemId) (p : ℕ) (port : BridgePort) (db : Lsps) (c : CsnpValue) → port.csnp_due ≡ true → Has c (csnps_of system db) → IsSent (summaries_at system p port db) p (csnp_frame system c)
summary_sent system p port db c due among =
    subst (λ (frames : List (ℕ × List ℕ)). IsSent frames p (csnp_frame system c)) (sym (when_true port.csnp_due (map (λ c. (p, csnp_frame system c)) (csnps_of system db)) [] due)) (sent_map p (csnp_frame system) c (csnps_of system db) among)

request_sent : (system : SystemId) (p : ℕ) (db : Lsps) (s : PsnpValue) → Has s (psnps_of system p db) → IsSent (requests_at system p db) p (psnp_frame system s)
request_sent system p db s among = sent_map p (psnp_frame system) s (psnps_of system p db) among

module _ (v : BridgeView) (p : ℕ) (few : length v.ports ≤ 32) (g : UpPort v p) where
  abbrev summaries : List (ℕ × List ℕ)
  summaries = summaries_at v.id.system p g.port v.database

  abbrev lsps : List (ℕ × List ℕ)
  lsps = lsps_at v.id.system p v.database

  abbrev requests : List (ℕ × List ℕ)
  requests = requests_at v.id.system p v.database

  among_all : (bytes : List ℕ) → IsSent (summaries ++ lsps ++ requests) p bytes → IsSent (sent_by v) p bytes
  among_all bytes some =
      let at = found v.ports p g.port g.there in
      served_from v.id.system 1 v.ports v.database (p - 1) p g.port bytes (omega arith) (omega (arith, few)) (omega (arith, at.0)) at.1
      (subst (λ (frames : List (ℕ × List ℕ)). IsSent frames p bytes) (sym (when_true (is_port_up g.port) (summaries ++ lsps ++ requests) [] g.up)) some)

  served : is_csnp_due_at v p ≡ g.port.csnp_due → IsServedAt v p (sent_by v)
  served due = record {
    lsps = λ id e held flagged.
        let bytes : List ℕ = lsp_frame v.id.system (lsp_in id e) in
        among_all bytes (sent_left (summaries ++ lsps) requests p bytes (sent_right summaries lsps p bytes (lsp_sent v.id.system p v.database id e held flagged)));
    summaries = λ is. has_all (λ c. IsSent (sent_by v) p (csnp_frame v.id.system c)) (csnps_of v.id.system v.database) (λ c among.
        let bytes : List ℕ = csnp_frame v.id.system c in
        among_all bytes (sent_left (summaries ++ lsps) requests p bytes (sent_left summaries lsps p bytes (summary_sent v.id.system p g.port v.database c (sym due ∙ is) among))));
    requests = has_all (λ s. IsSent (sent_by v) p (psnp_frame v.id.system s)) (psnps_of v.id.system p v.database) (λ s among.
        let bytes : List ℕ = psnp_frame v.id.system s in
        among_all bytes (sent_right (summaries ++ lsps) requests p bytes (request_sent v.id.system p v.database s among)));
  }

pub seconds_serve : SecondsServe
unfolding is_up_at is_csnp_due_at sent_in_tick
seconds_serve v p was up =
    let u : BridgeView = readied v in
    let g = up_port u p (port_at u p) refl up in
    served u p (few_ready v was) g (ap is_csnp_due_in g.there)

-- ---- what has SSN

stays_from : (q : ℕ) (ports : List BridgePort) (db : Lsps) (p : ℕ) (id : LspId) → 1 ≤ q → q + length ports ≤ 33 → has (ssn_in (get db id)) p ≡ false → has (ssn_in (get (after_sending_from q ports db) id)) p ≡ false
stays_from q [] db p id low few off = off
stays_from q (x ∷ ports) db p id low few off = stays_from (q + 1) ports (after_sending_at q x db) p id (omega arith) (omega (arith, few)) (stays_clear q p x db id low (omega (arith, few)) off)

clears_from : (q : ℕ) (ports : List BridgePort) (db : Lsps) (place p : ℕ) (port : BridgePort) (id : LspId) → 1 ≤ q → q + length ports ≤ 33 → p ≡ q + place → slice_get ports place ≡ Some port → is_port_up port ≡ true
    → has (ssn_in (get (after_sending_from q ports db) id)) p ≡ false
clears_from q [] db place p port id low few number at up = absurd cc
clears_from q (x ∷ ports) db zero p port id low few number at up =
    let same : port ≡ x = cc in
    let first : q ≡ p = omega (arith, number) in
    let clear : has (ssn_in (get (after_sending_at q x db) id)) q ≡ false = after_sending_clears q x db id (sym (ap is_port_up same) ∙ up) low (omega (arith, few)) in
    stays_from (q + 1) ports (after_sending_at q x db) p id (omega arith) (omega (arith, few)) (subst (λ (k : ℕ). has (ssn_in (get (after_sending_at q x db) id)) k ≡ false) first clear)
clears_from q (x ∷ ports) db (suc place) p port id low few number at up = clears_from (q + 1) ports (after_sending_at q x db) place p port id (omega arith) (omega (arith, few)) (omega (arith, number)) at up

-- a flag that stands, stands at an Up port
flag_up : (v : BridgeView) (p : ℕ) (id : LspId) (db : Lsps) (o : Option Entry) → IsSoundData (up_ports v) v.id.system db → get db id ≡ o → has (ssn_in o) p ≡ true → has (up_ports v) p ≡ true
flag_up v p id db None sound held on = absurd (false≢true (sym (has-no_ports p) ∙ on))
flag_up v p id db (Some e) sound held on = (sound.flags id e held).ssn p on

no_ssn_left : (v : BridgeView) (p : ℕ) (id : LspId) → length v.ports ≤ 32 → Holds v → has (ssn_in (get (after_sending v).database id)) p ≡ false
no_ssn_left v p id few held = by_test (has (ssn_in (get db id)) p) refl
  where
    db : Lsps
    db = after_sending_from 1 v.ports v.database

    by_test : (b : Bool) → has (ssn_in (get db id)) p ≡ b → has (ssn_in (get db id)) p ≡ false
    by_test false off = off
    by_test true on =
        let sound : IsSoundData (up_ports v) v.id.system db = after_sending_from_keeps (up_ports v) v.id.system 1 v.ports v.database held in
        let up : has (up_ports v) p ≡ true = flag_up v p id db (get db id) sound refl on in
        let g = up_port v p (port_at v p) refl (sym (up_at v.ports p few) ∙ up) in
        let at = found v.ports p g.port g.there in
        clears_from 1 v.ports v.database (p - 1) p g.port id (omega arith) (omega (arith, few)) (omega (arith, at.0)) at.1 g.up

-- ---- and else

pub held_from : (q : ℕ) (ports : List BridgePort) (db : Lsps) (id : LspId) → but_for_ssn (get (after_sending_from q ports db) id) ≡ but_for_ssn (get db id)
held_from q [] db id = refl
held_from q (x ∷ ports) db id = held_from (q + 1) ports (after_sending_at q x db) id ∙ after_sending_holds q x db id

undue_in : (o : Option BridgePort) → is_csnp_due_in (option_map (with_csnp_due false) o) ≡ false
undue_in None = refl
undue_in (Some port) = refl

undue : (b : Bool) (ports : List BridgePort) (place : ℕ) → is_csnp_due_in (if b then slice_get (map (with_csnp_due false) ports) place else None) ≡ false
undue true ports place = ap is_csnp_due_in (slice_get-map (with_csnp_due false) ports place) ∙ undue_in (slice_get ports place)
undue false ports place = refl

after_sending_leaves_nothing_due : (v : BridgeView) → length v.ports ≤ 32 → Holds v → HasNothingDue v (after_sending v)
unfolding is_csnp_due_at
after_sending_leaves_nothing_due v few held = record {
  csnp_due = λ p. undue (nat_le 1 p) v.ports (p - 1);
  ssn = λ p id. no_ssn_left v p id few held;
  held = held_from 1 v.ports v.database;
}

pub seconds_leave_nothing_due : SecondsLeaveNothingDue
seconds_leave_nothing_due v was = subst (λ (w : BridgeView). HasNothingDue (readied v) w) (sym (tick_is v)) (after_sending_leaves_nothing_due (readied v) (few_ready v was) (readied_holds v was))
