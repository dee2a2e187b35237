-- No version that is held falls in a step, and the neighbour at each Up port is no further behind.
use Rattle.std.proofs.Common.{◌≡◌, ◌≢◌, ◌⊎◌, inl, inr, ◌≤◌, ◌+◌, ◌-◌, ℕ, suc, Bool, true, false, List, [], ◌∷◌, length, map, refl, sym, ap, ◌∙◌, subst, Option, Some, None, Result, Ok, Err, arith, ⊎_elim}
use Rattle.std.specs.Prelude.{⊤, ◌&&◌, not, nat_le, slice_get, slice_set, if◌then◌else◌, ◌++◌}
use Rattle.std.specs.Option.{option_map}
use Rattle.std.specs.FinMap.{get}
use Rattle.std.proofs.lemmas.List.{append-nil, length-map, length-set}
use Rattle.std.proofs.lemmas.Option.{slice_get-map, slice_get_within}
use Rattle.std.proofs.lemmas.Bool.{cases_Bool, cases_eq, true≢false, le-leb}
use Rattle.spb_types.specs.declared.address.LspId.{LspId}
use Rattle.spb_types.specs.declared.ports.PortSet.{PortSet}
use Rattle.spb_types.specs.Ports.{has, with_port, without_port}
use Rattle.spb_types.proofs.PortLemmas.{has-with_same, has-with_other, has-without_same, has-without_other}
use Rattle.isis_pdu.specs.Pdu.{HelloValue, LspValue, CsnpValue}
use Rattle.spb_tlvs.specs.declared.error.TlvError.{TlvError}
use Rattle.spb_tlvs.specs.declared.entries.SnpEntry.{SnpEntry}
use Rattle.spb_tlvs.specs.declared.three_way.ThreeWay.{ThreeWay}
use Rattle.lsdb.specs.declared.version.Version.{Version}
use Rattle.lsdb.specs.Version.{IsAtMost}
use Rattle.lsdb.specs.Entry.{Entry, flags_cleared_at, srm_set_at, aged}
use Rattle.lsdb.specs.Database.{Lsps}
use Rattle.lsdb.specs.Certificate.{Claim, Kept, is_flagged, is_absent, is_as_before, is_claimed, Control, Certificate}
use Rattle.lsdb.proofs.Order.{itself}
use Rattle.lsdb.proofs.Certified.{standing, steps_compose, silence_serves_all, clearing_port, setting_srm, ageing, changing_each}
use Rattle.flooding.specs.Hearing.{claim_of}
use Rattle.flooding.specs.Settling.{says, is_new}
use Rattle.flooding.proofs.Steps.{hearing_lsp}
use Rattle.flooding.proofs.Settled.{settling_is_certified}
use Rattle.snp_sync.specs.Reading.{entries_in}
use Rattle.snp_sync.specs.Hearing.{claims_in}
use Rattle.snp_sync.proofs.Said.{clearing_ssn_is_certified}
use Rattle.snp_sync.proofs.Served.{entries_are_certified, csnp_is_certified}
use Rattle.adjacency.specs.declared.state.AdjacencyChange.{AdjacencyChange}
use Rattle.adjacency.specs.declared.state.AdjacencyChange.TheVariants as did
use Rattle.adjacency.specs.declared.port.Adjacency.{Adjacency}
use Rattle.adjacency.specs.Hearing.{is_discarded}
use Rattle.adjacency.specs.Adjacency.{is_up, after_hello_heard, after_hello, change_by_hello, after_carrier, change_of}
use Rattle.spb_types.specs.declared.service.Attachment.{Attachment}
use Rattle.bridge_api.specs.declared.port.BridgePort.{BridgePort}
use Rattle.bridge_api.specs.View.{BridgeView, port_in, port_at, with_port_at, is_port_up, is_up_in, up_from, up_ports, control_of}
use Rattle.bridge_api.specs.Own.{holding_of, originated_if_changed}
use Rattle.bridge_api.specs.Parsing.{Parsed, parsed}
use Rattle.bridge_api.specs.Parsing as parsing
use Rattle.spb_types.specs.declared.drop_reason.DropReason.TheVariants as drop
use Rattle.bridge_api.specs.Hearing.{after_drop, with_csnp_due, with_adjacency, left_up, all_srm_set_at, entered_up, changed_at, heard_hello, heard_lsp, heard_csnp, heard_psnp, with_csnp, with_psnp, heard_as, heard_at, after_receive, with_carrier_at, with_carrier, with_port_metric, with_metric_at, with_metric}
use Rattle.bridge_api.specs.Ticking.{later, leaves, leaving_from, flags_cleared_at_all, counts_lowered, expired, refreshed, readied, after_sending_at, after_sending_from, after_sending, after_tick}
use Rattle.bridge_api.specs.Customers.{after_entry}
use Rattle.bridge_api.specs.Services.{with_attached, without_customer_port, with_port_forgotten}
use Rattle.bridge_api.specs.Step.{second, frame, carrier, metric, attach, detach, customer, step}
use Rattle.bridge_api.specs.Laws.{claims_or_none, claims_said, StepsCarryDatabase}
use Rattle.bridge_api.proofs.Adjacent.{second_up, up_since}
use Rattle.bridge_api.proofs.Places.{got_at}
use Rattle.bridge_api.proofs.Changes.{found, one_port, originated_if_changed_ports, attached_to}
use Rattle.bridge_api.proofs.Data.{up_at, port_range, undue_up}

-- ---- certificates

kept_at : (port : ℕ) (claims : List Claim) (before less : PortSet) (id : LspId) (p : ℕ) (o n : Option Entry) → (has before p ≡ true → has less p ≡ true) → Kept port claims before id p o n → Kept port claims less id p o n
kept_at port claims before less id p o n was (is_flagged h) = is_flagged h
kept_at port claims before less id p o n was (is_absent h) = is_absent h
kept_at port claims before less id p o n was (is_as_before u f e) = is_as_before (was u) f e
kept_at port claims before less id p o n was (is_claimed q a c l) = is_claimed q a c l

-- fewer Up ports afterwards, and before it others, but the same of these
pub narrowed : (port : ℕ) (claims : List Claim) (before after less fewer : PortSet) (db new : Lsps) → ((p : ℕ) → has fewer p ≡ true → has after p ≡ true) → ((p : ℕ) → has fewer p ≡ true → has before p ≡ true → has less p ≡ true)
    → Certificate port claims (record { up = before; db = db }) (record { up = after; db = new }) → Certificate port claims (record { up = less; db = db }) (record { up = fewer; db = new })
narrowed port claims before after less fewer db new still was step = record {
  rises = step.rises;
  kept = λ id p u. kept_at port claims before less id p (get db id) (get new id) (was p u) (step.kept id p (still p u));
}

-- a step without claims before or after one with claims
pub and_then : (port : ℕ) (claims : List Claim) (v u w : Control) → Certificate port claims v u → Certificate port [] u w → Certificate port claims v w
and_then port claims v u w step quiet = subst (λ (all : List Claim). Certificate port all v w) (append-nil claims) (steps_compose port claims [] v u w step quiet)

-- ---- the own LSP is brought up to date

pub originated_if_changed_carries : (port : ℕ) (claims : List Claim) (v : BridgeView) → Certificate port claims (control_of v) (control_of (originated_if_changed v))
unfolding originated_if_changed
originated_if_changed_carries port claims v = settling_is_certified says (up_ports v) port claims (holding_of v)

pub refreshed_carries : (port : ℕ) (claims : List Claim) (v : BridgeView) → Certificate port claims (control_of v) (control_of (refreshed v))
unfolding refreshed
refreshed_carries port claims v = settling_is_certified is_new (up_ports v) port claims (holding_of v)

-- and after anything else
then_originated_if_changed : (port : ℕ) (claims : List Claim) (v u : BridgeView) → Certificate port claims (control_of v) (control_of u) → Certificate port claims (control_of v) (control_of (originated_if_changed u))
then_originated_if_changed port claims v u step = and_then port claims (control_of v) (control_of u) (control_of (originated_if_changed u)) step (originated_if_changed_carries port [] u)

-- ---- one port changed

up_set : (ports : List BridgePort) (q : ℕ) (to : BridgePort) (p : ℕ) → length ports ≤ 32 → has (up_from 1 (slice_set ports (q - 1) to)) p ≡ is_up_in (port_in (slice_set ports (q - 1) to) p)
up_set ports q to p few = up_at (slice_set ports (q - 1) to) p (omega (arith, length-set ports (q - 1) to, few))

-- where the port of number q changed, any other port is Up if it was
up_beside : (ports : List BridgePort) (q : ℕ) (from to : BridgePort) (p : ℕ) → length ports ≤ 32 → 1 ≤ q → slice_get ports (q - 1) ≡ Some from → p ≢ q → has (up_from 1 (slice_set ports (q - 1) to)) p ≡ has (up_from 1 ports) p
up_beside ports q from to p few low is apart =
    up_set ports q to p few
    ∙ (elim (one_port ports q from to p low is) [
      | inl here ↦ absurd (apart here.0)
      | inr same ↦ ap is_up_in same
    ]
    ∙ sym (up_at ports p few))

-- and that one by what it became
up_here : (ports : List BridgePort) (q : ℕ) (from to : BridgePort) → length ports ≤ 32 → 1 ≤ q → slice_get ports (q - 1) ≡ Some from → has (up_from 1 (slice_set ports (q - 1) to)) q ≡ is_port_up to
up_here ports q from to few low is =
    let found_there : port_in (slice_set ports (q - 1) to) q ≡ Some to = rw (le-leb 1 q low) (got_at ports (q - 1) to (slice_get_within ports (q - 1) from is)) in
    up_set ports q to q few ∙ ap is_up_in found_there

-- so a port that is Up afterwards is that one, or was Up before
up_after : (ports : List BridgePort) (q : ℕ) (from to : BridgePort) (p : ℕ) → length ports ≤ 32 → 1 ≤ q → slice_get ports (q - 1) ≡ Some from → has (up_from 1 (slice_set ports (q - 1) to)) p ≡ true
    → ((p ≡ q) × (is_port_up to ≡ true)) ⊎ ((p ≢ q) × (has (up_from 1 ports) p ≡ true))
up_after ports q from to p few low is up =
    elim (cases_eq p q) [
      | inl e ↦ inl (e, sym (up_here ports q from to few low is) ∙ ap (λ (k : ℕ). has (up_from 1 (slice_set ports (q - 1) to)) k) (sym e) ∙ up)
      | inr apart ↦ inr (apart, sym (up_beside ports q from to p few low is apart) ∙ up)
    ]

-- ---- something came to pass at a port

-- the port of number q was this one, of at most 32
pub record Stood (v : BridgeView) (q : ℕ) (port : BridgePort) : Type 0 where
  pub few : length v.ports ≤ 32
  pub low : 1 ≤ q
  pub high : q ≤ 32
  pub is : slice_get v.ports (q - 1) ≡ Some port

pub stood : (v : BridgeView) (q : ℕ) (port : BridgePort) → length v.ports ≤ 32 → port_at v q ≡ Some port → Stood v q port
stood v q port few there =
    let range = port_range v.ports q port few there in
    record { few = few; low = range.0; high = range.1; is = (found v.ports q port there).1 }

-- the port stays as it was, Up or not, or is Up no longer
kept_carries : (q : ℕ) (old new : BridgePort) (v : BridgeView) → Stood v q old → (is_port_up new ≡ true → is_port_up old ≡ true) → Certificate 0 [] (control_of v) (control_of (with_port_at q new v))
kept_carries q old new v at kept =
    narrowed 0 [] (up_ports v) (up_ports v) (up_ports v) (up_ports (with_port_at q new v)) v.database v.database
    (λ p up. elim (up_after v.ports q old new p at.few at.low at.is up) [
      | inl here ↦ up_at v.ports p at.few ∙ (ap (λ (k : ℕ). is_up_in (port_in v.ports k)) here.0 ∙ (rw (le-leb 1 q at.low) (ap is_up_in at.is) ∙ kept here.1))
      | inr other ↦ other.1
    ])
    (λ p up was. was) (standing 0 [] (control_of v))

-- the Up ports but for one
abbrev but_for : ℕ → BridgeView → PortSet
but_for q v = without_port (up_ports v) q

-- the flags at the port are cleared: nothing is said of it then
left_carries : (q : ℕ) (old new : BridgePort) (v : BridgeView) → Stood v q old → Certificate 0 [] (control_of v) (record { up = but_for q v; db = (left_up q new v).database })
left_carries q old new v at = changing_each 0 [] (up_ports v) (but_for q v) v.database (λ id e. flags_cleared_at q e) (λ id e. clearing_port (up_ports v) q 0 [] id e at.low at.high)

other_than : (q : ℕ) (v : BridgeView) (p : ℕ) → 1 ≤ q → q ≤ 32 → has (but_for q v) p ≡ true → (p ≢ q) × (has (up_ports v) p ≡ true)
other_than q v p low high up =
    elim (cases_eq p q) [
      | inl e ↦ absurd (true≢false (sym up ∙ (ap (λ (k : ℕ). has (but_for q v) k) e ∙ has-without_same (up_ports v) q low high)))
      | inr apart ↦ (apart, sym (has-without_other (up_ports v) q p low high apart) ∙ up)
    ]

-- then the bridge originates, in which the Up ports are those afterwards
clearing_ssn_carries : (q : ℕ) (old new : BridgePort) (v : BridgeView) → Stood v q old → Certificate 0 [] (record { up = but_for q v; db = (left_up q new v).database }) (record { up = but_for q v; db = (originated_if_changed (left_up q new v)).database })
clearing_ssn_carries q old new v at =
    let u : BridgeView = left_up q new v in
    let still : (p : ℕ) → has (but_for q v) p ≡ true → has (up_ports u) p ≡ true = λ p up.
    let other = other_than q v p at.low at.high up in
    up_beside v.ports q old (with_csnp_due false new) p at.few at.low at.is other.0 ∙ other.1 in
    narrowed 0 [] (up_ports u) (up_ports (originated_if_changed u)) (but_for q v) (but_for q v) u.database (originated_if_changed u).database
    (λ p up. ap (λ (ports : List BridgePort). has (up_from 1 ports) p) (originated_if_changed_ports u) ∙ still p up) (λ p up was. up) (originated_if_changed_carries 0 [] u)

-- and every LSP is to be sent at the port
srm_set_carries : (q : ℕ) (new : BridgePort) (v u : BridgeView) → 1 ≤ q → q ≤ 32 → Certificate 0 [] (record { up = but_for q v; db = u.database }) (record { up = with_port (but_for q v) q; db = (all_srm_set_at q new u).database })
srm_set_carries q new v u low high = changing_each 0 [] (but_for q v) (with_port (but_for q v) q) u.database (λ id e. srm_set_at q e) (λ id e. setting_srm (but_for q v) q 0 [] id e low high)

entering_is_up : (q : ℕ) (old new : BridgePort) (v : BridgeView) (p : ℕ) → Stood v q old → has (up_ports (entered_up q new v)) p ≡ true → has (with_port (but_for q v) q) p ≡ true
entering_is_up q old new v p at up =
    let u : BridgeView = left_up q new v in
    let ports : (originated_if_changed u).ports ≡ u.ports = originated_if_changed_ports u in
    let up' : has (up_from 1 (slice_set u.ports (q - 1) (with_csnp_due true new))) p ≡ true = ap (λ (list : List BridgePort). has (up_from 1 (slice_set list (q - 1) (with_csnp_due true new))) p) (sym ports) ∙ up in
    elim (cases_eq p q) [
      | inl e ↦ ap (λ (k : ℕ). has (with_port (but_for q v) q) k) e ∙ has-with_same (but_for q v) q at.low at.high
      | inr apart ↦
          let few : length u.ports ≤ 32 = omega (arith, length-set v.ports (q - 1) (with_csnp_due false new), at.few) in
          let is : slice_get u.ports (q - 1) ≡ Some (with_csnp_due false new) = got_at v.ports (q - 1) (with_csnp_due false new) (slice_get_within v.ports (q - 1) old at.is) in
          let before : has (up_ports v) p ≡ true =
          sym (up_beside v.ports q old (with_csnp_due false new) p at.few at.low at.is apart)
          ∙ (sym (up_beside u.ports q (with_csnp_due false new) (with_csnp_due true new) p few at.low is apart) ∙ up') in
          has-with_other (but_for q v) q p at.low at.high apart ∙ (has-without_other (up_ports v) q p at.low at.high apart ∙ before)
    ]

-- entering Up is one operation: at the port every LSP is to be sent, and the others are as the parts leave them
entering_carries : (q : ℕ) (old new : BridgePort) (v : BridgeView) → Stood v q old → Certificate 0 [] (control_of v) (control_of (entered_up q new v))
entering_carries q old new v at =
    let u : BridgeView = originated_if_changed (left_up q new v) in
    let last : Control = record { up = with_port (but_for q v) q; db = (all_srm_set_at q new u).database } in
    let whole : Certificate 0 [] (control_of v) last =
    steps_compose 0 [] [] (control_of v) (record { up = but_for q v; db = (left_up q new v).database }) last (left_carries q old new v at)
    (steps_compose 0 [] [] (record { up = but_for q v; db = (left_up q new v).database }) (record { up = but_for q v; db = u.database }) last (clearing_ssn_carries q old new v at) (srm_set_carries q new v u at.low at.high)) in
    narrowed 0 [] (up_ports v) (with_port (but_for q v) q) (up_ports v) (up_ports (entered_up q new v)) v.database (entered_up q new v).database
    (λ p up. entering_is_up q old new v p at up) (λ p up was. was) whole

-- leaving Up
flags_cleared_carries : (q : ℕ) (old new : BridgePort) (v : BridgeView) → Stood v q old → is_port_up new ≡ false → Certificate 0 [] (control_of v) (control_of (left_up q new v))
flags_cleared_carries q old new v at down =
    narrowed 0 [] (up_ports v) (but_for q v) (up_ports v) (up_ports (left_up q new v)) v.database (left_up q new v).database
    (λ p up. elim (up_after v.ports q old (with_csnp_due false new) p at.few at.low at.is up) [
      | inl here ↦ absurd (true≢false (sym here.1 ∙ down))
      | inr other ↦ has-without_other (up_ports v) q p at.low at.high other.0 ∙ other.1
    ])
    (λ p up was. was) (left_carries q old new v at)

changed_carries : (heard : AdjacencyChange) (q : ℕ) (old new : BridgePort) (v : BridgeView) → Stood v q old → (heard ≡ did.Kept → is_port_up new ≡ true → is_port_up old ≡ true) → (heard ≡ did.LeftUp → is_port_up new ≡ false)
    → Certificate 0 [] (control_of v) (control_of (changed_at heard q new v))
changed_carries did.Discarded q old new v at kept lost = standing 0 [] (control_of v)
changed_carries did.Kept q old new v at kept lost = then_originated_if_changed 0 [] v (with_port_at q new v) (kept_carries q old new v at (kept refl))
changed_carries did.LeftUp q old new v at kept lost = then_originated_if_changed 0 [] v (left_up q new v) (flags_cleared_carries q old new v at (lost refl))
changed_carries did.CameUp q old new v at kept lost = entering_carries q old new v at

-- ---- hellos and carrier

kept_up : (old new : Adjacency) → change_of old new ≡ did.Kept → is_up new.state ≡ true → is_up old.state ≡ true
kept_up old new e up =
    elim (up_since old new up) [
      | inl came ↦ absurd (let no : did.Kept ≡ did.CameUp = sym e ∙ came in cc)
      | inr was ↦ was.0
    ]

lost_at : (up_now up_before same : Bool) → (if (up_now && not (up_before && same)) then did.CameUp else (if (up_before && not up_now) then did.LeftUp else did.Kept)) ≡ did.LeftUp → up_now ≡ false
lost_at true true true e = absurd cc
lost_at true true false e = absurd cc
lost_at true false same e = absurd cc
lost_at false up_before same e = refl

lost_up : (old new : Adjacency) → change_of old new ≡ did.LeftUp → is_up new.state ≡ false
lost_up old new e = lost_at (is_up new.state) (is_up old.state) _ e

hello_kept : (discarded : Bool) (old new : Adjacency) → (if discarded then did.Discarded else change_of old new) ≡ did.Kept → is_up (if discarded then old else new).state ≡ true → is_up old.state ≡ true
hello_kept true old new e up = up
hello_kept false old new e up = kept_up old new e up

hello_lost : (discarded : Bool) (old new : Adjacency) → (if discarded then did.Discarded else change_of old new) ≡ did.LeftUp → is_up (if discarded then old else new).state ≡ false
hello_lost true old new e = absurd cc
hello_lost false old new e = lost_up old new e

pub heard_hello_carries : (h : HelloValue) (way : ThreeWay) (q : ℕ) (port : BridgePort) (v : BridgeView) → length v.ports ≤ 32 → port_at v q ≡ Some port → Certificate 0 [] (control_of v) (control_of (heard_hello h way q port v))
heard_hello_carries h way q port v few there =
    let a : Adjacency = port.adjacency in
    let discarded : Bool = is_discarded v.id.system q h way in
    changed_carries (change_by_hello v.id.system q h way a) q port (with_adjacency (after_hello v.id.system q h way a) port) v (stood v q port few there) (hello_kept discarded a (after_hello_heard h way a)) (hello_lost discarded a (after_hello_heard h way a))

with_carrier_carries : (q : ℕ) (on : Bool) (o : Option BridgePort) (v : BridgeView) → length v.ports ≤ 32 → port_at v q ≡ o → Certificate 0 [] (control_of v) (control_of (with_carrier_at q on o v))
with_carrier_carries q on None v few there = standing 0 [] (control_of v)
with_carrier_carries q on (Some port) v few there =
    let a : Adjacency = port.adjacency in
    changed_carries (change_of a (after_carrier on a)) q port (with_adjacency (after_carrier on a) port) v (stood v q port few there) (kept_up a (after_carrier on a)) (lost_up a (after_carrier on a))

with_metric_carries : (q m : ℕ) (o : Option BridgePort) (v : BridgeView) → length v.ports ≤ 32 → port_at v q ≡ o → Certificate 0 [] (control_of v) (control_of (with_metric_at q m o v))
with_metric_carries q m None v few there = standing 0 [] (control_of v)
with_metric_carries q m (Some port) v few there = then_originated_if_changed 0 [] v (with_port_at q (with_port_metric m port) v) (kept_carries q port (with_port_metric m port) v (stood v q port few there) (λ up. up))

attached_carries : (attached : List Attachment) (v : BridgeView) → Certificate 0 [] (control_of v) (control_of (with_attached attached v))
unfolding with_attached
attached_carries attached v = then_originated_if_changed 0 [] v (attached_to attached v) (standing 0 [] (control_of v))

-- ---- a frame

-- an LSP, or a sequence numbers PDU, is heard at an Up port
heard_lsp_carries : (l : LspValue) (q : ℕ) (v : BridgeView) → has (up_ports v) q ≡ true → Certificate q (claim_of l ∷ []) (control_of v) (control_of (originated_if_changed (heard_lsp l q v)))
heard_lsp_carries l q v up = then_originated_if_changed q (claim_of l ∷ []) v (heard_lsp l q v) (hearing_lsp (up_ports v) q l (holding_of v) up)

csnp_read_carries : (c : CsnpValue) (read : Result (List SnpEntry) TlvError) (q : ℕ) (v : BridgeView) → has (up_ports v) q ≡ true → Certificate q (claims_or_none read) (control_of v) (control_of (with_csnp c read q v))
csnp_read_carries c (Err e) q v up = standing q [] (control_of v)
csnp_read_carries c (Ok entries) q v up = then_originated_if_changed q (claims_in entries) v (heard_csnp c entries q v) (csnp_is_certified (up_ports v) q c.start c.end (claims_in entries) (holding_of v) up)

psnp_read_carries : (read : Result (List SnpEntry) TlvError) (q : ℕ) (v : BridgeView) → has (up_ports v) q ≡ true → Certificate q (claims_or_none read) (control_of v) (control_of (with_psnp read q v))
psnp_read_carries (Err e) q v up = standing q [] (control_of v)
psnp_read_carries (Ok entries) q v up = then_originated_if_changed q (claims_in entries) v (heard_psnp entries q v) (entries_are_certified (up_ports v) q (claims_in entries) (holding_of v) up)

-- or dropped
where_up : (b : Bool) (q : ℕ) (claims : List Claim) (v w : BridgeView) → (b ≡ true → Certificate q claims (control_of v) (control_of w)) → Certificate q claims (control_of v) (control_of (if b then w else after_drop drop.NotAdjacent v))
where_up true q claims v w step = step refl
where_up false q claims v w step = standing q claims (control_of v)

port_is_up : (q : ℕ) (port : BridgePort) (v : BridgeView) → length v.ports ≤ 32 → port_at v q ≡ Some port → is_port_up port ≡ true → has (up_ports v) q ≡ true
port_is_up q port v few there up = up_at v.ports q few ∙ (ap is_up_in there ∙ up)

kind_carries : (j : Parsed) (q : ℕ) (port : BridgePort) (v : BridgeView) → length v.ports ≤ 32 → port_at v q ≡ Some port → Certificate q (claims_said j) (control_of v) (control_of (heard_as j q port v))
kind_carries (parsing.dropped reason) q port v few there = standing q [] (control_of v)
kind_carries (parsing.hello h way) q port v few there = silence_serves_all 0 q [] (control_of v) (control_of (heard_hello h way q port v)) (heard_hello_carries h way q port v few there)
kind_carries (parsing.lsp l) q port v few there =
    where_up (is_port_up port) q (claim_of l ∷ []) v (originated_if_changed (heard_lsp l q v)) (λ up. heard_lsp_carries l q v (port_is_up q port v few there up))
kind_carries (parsing.csnp c) q port v few there =
    where_up (is_port_up port) q (claims_or_none (entries_in c.tlvs)) v (with_csnp c (entries_in c.tlvs) q v) (λ up. csnp_read_carries c (entries_in c.tlvs) q v (port_is_up q port v few there up))
kind_carries (parsing.psnp s) q port v few there =
    where_up (is_port_up port) q (claims_or_none (entries_in s.tlvs)) v (with_psnp (entries_in s.tlvs) q v) (λ up. psnp_read_carries (entries_in s.tlvs) q v (port_is_up q port v few there up))
kind_carries (parsing.customer da sa vid isid payload) q port v few there = standing q [] (control_of v)

heard_carries : (q : ℕ) (bytes : List ℕ) (o : Option BridgePort) (v : BridgeView) → length v.ports ≤ 32 → port_at v q ≡ o → Certificate q (claims_said (parsed bytes)) (control_of v) (control_of (heard_at q bytes o v))
heard_carries q bytes None v few there = standing q (claims_said (parsed bytes)) (control_of v)
heard_carries q bytes (Some port) v few there =
    where_up port.adjacency.carrier q (claims_said (parsed bytes)) v (heard_as (parsed bytes) q port v) (λ has_carrier. kind_carries (parsed bytes) q port v few there)

-- ---- a second

-- a number that isn't among others, each that of a port
abbrev Avoids : ℕ → List ℕ → Type 0
Avoids q [] = ⊤
Avoids q (p ∷ ps) = (1 ≤ p) × (p ≤ 32) × (q ≢ p) × Avoids q ps

avoids_at : (b : Bool) (k q : ℕ) (rest : List ℕ) → 1 ≤ k → k ≤ 32 → (b ≡ true → q ≢ k) → Avoids q rest → Avoids q (if b then k ∷ rest else rest)
avoids_at true k q rest low high apart away = (low, high, apart refl, away)
avoids_at false k q rest low high apart away = away

avoids : (k : ℕ) (ports : List BridgePort) (q : ℕ) → 1 ≤ k → k + length ports ≤ 33 → ((i : ℕ) (port : BridgePort) → slice_get ports i ≡ Some port → q ≡ k + i → leaves port ≡ false) → Avoids q (leaving_from k ports)
avoids k [] q low few stays = tt
avoids k (port ∷ ports) q low few stays =
    avoids_at (leaves port) k q (leaving_from (k + 1) ports) low (omega (arith, few))
    (λ gone same. true≢false (sym gone ∙ stays 0 port refl (omega (arith, same))))
    (avoids (k + 1) ports q (omega arith) (omega (arith, few)) (λ i next is same. stays (suc i) next is (omega (arith, same))))

flags_cleared_version : (ps : List ℕ) (e : Entry) → (flags_cleared_at_all ps e).version ≡ e.version
flags_cleared_version [] e = refl
flags_cleared_version (p ∷ ps) e = flags_cleared_version ps (flags_cleared_at p e)

flags_cleared_beside : (ps : List ℕ) (e : Entry) (q : ℕ) → Avoids q ps → has (flags_cleared_at_all ps e).srm q ≡ has e.srm q
flags_cleared_beside [] e q away = refl
flags_cleared_beside (p ∷ ps) e q away = flags_cleared_beside ps (flags_cleared_at p e) q away.3 ∙ has-without_other e.srm p q away.0 away.1 away.2

-- a port that is Up a second later was Up, and its flags aren't cleared
later_up : (o : Option BridgePort) → is_up_in (option_map later o) ≡ true → is_up_in o ≡ true
later_up None up = absurd cc
later_up (Some port) up = (second_up port.adjacency up).0

later_in : (b : Bool) (ports : List BridgePort) (k : ℕ) → is_up_in (if b then slice_get (map later ports) k else None) ≡ true → is_up_in (if b then slice_get ports k else None) ≡ true
later_in true ports k up = later_up (slice_get ports k) (sym (ap is_up_in (slice_get-map later ports k)) ∙ up)
later_in false ports k up = absurd cc

stays_up : (a b : Bool) → b ≡ true → (a && not b) ≡ false
stays_up true b is = ap not is
stays_up false b is = refl

later_stays : (ports : List BridgePort) (p : ℕ) → is_up_in (port_in (map later ports) p) ≡ true → (i : ℕ) (port : BridgePort) → slice_get ports i ≡ Some port → p ≡ 1 + i → leaves port ≡ false
later_stays ports p up i port is same =
    let place : p - 1 ≡ i = omega (arith, same) in
    let low : nat_le 1 p ≡ true = le-leb 1 p (omega (arith, same)) in
    let there : port_in (map later ports) p ≡ Some (later port) = rw (low, place) (slice_get-map later ports i ∙ ap (λ (o : Option BridgePort). option_map later o) is) in
    stays_up (is_port_up port) (is_port_up (later port)) (sym (ap is_up_in there) ∙ up)

counts_lowered_carries : (v : BridgeView) → length v.ports ≤ 32 → Certificate 0 [] (control_of v) (control_of (counts_lowered v))
counts_lowered_carries v few =
    let gone : List ℕ = leaving_from 1 v.ports in
    let up_then : (p : ℕ) → has (up_ports (counts_lowered v)) p ≡ true → is_up_in (port_in (map later v.ports) p) ≡ true = λ p up. sym (up_at (map later v.ports) p (omega (arith, length-map v.ports later, few))) ∙ up in
    changing_each 0 [] (up_ports v) (up_ports (counts_lowered v)) v.database (λ id e. flags_cleared_at_all gone e)
    (λ id e. record {
      rises = subst (λ (a : Version). IsAtMost e.version a) (sym (flags_cleared_version gone e)) (itself e.version);
      kept = λ p up.
          let still = up_then p up in
          let was : has (up_ports v) p ≡ true = up_at v.ports p few ∙ later_in (nat_le 1 p) v.ports (p - 1) still in
          let same : has (flags_cleared_at_all gone e).srm p ≡ has e.srm p = flags_cleared_beside gone e p (avoids 1 v.ports p (omega arith) (omega (arith, few)) (later_stays v.ports p still)) in
          ⊎_elim (λ t. is_flagged t) (λ f. is_as_before was (sym same ∙ f) (flags_cleared_version gone e)) (cases_Bool (has (flags_cleared_at_all gone e).srm p));
    })

expired_carries : (v : BridgeView) → Certificate 0 [] (control_of v) (control_of (expired v))
expired_carries v = changing_each 0 [] (up_ports v) (up_ports v) v.database (λ id e. aged (up_ports v) e) (λ id e. ageing (up_ports v) 0 [] id e)

after_sending_once : (b : Bool) (up : PortSet) (p : ℕ) (port : BridgePort) (db : Lsps) → is_port_up port ≡ b → Certificate 0 [] (record { up = up; db = db }) (record { up = up; db = after_sending_at p port db })
after_sending_once true up p port db is = rw is (clearing_ssn_is_certified up p 0 [] db)
after_sending_once false up p port db is = rw is (standing 0 [] (record { up = up; db = db }))

after_sending_from_carries : (up : PortSet) (p : ℕ) (ports : List BridgePort) (db : Lsps) → Certificate 0 [] (record { up = up; db = db }) (record { up = up; db = after_sending_from p ports db })
after_sending_from_carries up p [] db = standing 0 [] (record { up = up; db = db })
after_sending_from_carries up p (port ∷ ports) db =
    steps_compose 0 [] [] (record { up = up; db = db }) (record { up = up; db = after_sending_at p port db }) (record { up = up; db = after_sending_from p (port ∷ ports) db })
    (after_sending_once (is_port_up port) up p port db refl) (after_sending_from_carries up (p + 1) ports (after_sending_at p port db))

after_sending_carries : (v : BridgeView) → Certificate 0 [] (control_of v) (control_of (after_sending v))
after_sending_carries v =
    subst (λ (up : PortSet). Certificate 0 [] (control_of v) (record { up = up; db = (after_sending v).database })) (sym (undue_up 1 v.ports)) (after_sending_from_carries (up_ports v) 1 v.ports v.database)

readied_carries : (v : BridgeView) → length v.ports ≤ 32 → Certificate 0 [] (control_of v) (control_of (readied v))
readied_carries v few =
    let u : BridgeView = counts_lowered v in
    steps_compose 0 [] [] (control_of v) (control_of u) (control_of (readied v)) (counts_lowered_carries v few)
    (steps_compose 0 [] [] (control_of u) (control_of (expired u)) (control_of (readied v)) (expired_carries u) (refreshed_carries 0 [] (expired u)))

tick_carries : (v : BridgeView) → length v.ports ≤ 32 → Certificate 0 [] (control_of v) (control_of (after_tick v))
unfolding after_tick
tick_carries v few = steps_compose 0 [] [] (control_of v) (control_of (readied v)) (control_of (after_sending (readied v))) (readied_carries v few) (after_sending_carries (readied v))

-- ---- every step

pub steps_carry_database : StepsCarryDatabase
unfolding after_receive with_carrier with_metric with_port_forgotten after_entry
steps_carry_database second v was = tick_carries v was.few
steps_carry_database (frame q bytes) v was = heard_carries q bytes (port_at v q) v was.few refl
steps_carry_database (carrier q on) v was = silence_serves_all 0 q [] (control_of v) (control_of (with_carrier q on v)) (with_carrier_carries q on (port_at v q) v was.few refl)
steps_carry_database (metric q m) v was = silence_serves_all 0 q [] (control_of v) (control_of (with_metric q m v)) (with_metric_carries q m (port_at v q) v was.few refl)
steps_carry_database (attach a) v was = attached_carries (v.attached ++ a ∷ []) v
steps_carry_database (detach p) v was = attached_carries (without_customer_port p v.attached) (with_port_forgotten p v)
steps_carry_database (customer p bytes) v was = standing 0 [] (control_of v)
