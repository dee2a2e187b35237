-- What a hello leaves of the flags at a port that stays Up with its neighbour, where what the bridge has to say stays.
use Rattle.std.proofs.Common.{◌≡◌, ◌≢◌, ◌⊎◌, inl, inr, ◌≤◌, ◌+◌, ◌-◌, ℕ, zero, suc, Bool, true, false, List, [], ◌∷◌, refl, sym, ap, ◌∙◌, subst, Option, Some, None}
use Rattle.std.specs.Prelude.{◌&&◌, not, slice_get, slice_set, if◌then◌else◌}
use Rattle.std.specs.Option.{option_map, option_and_then}
use Rattle.std.specs.FinMap.{get}
use Rattle.std.proofs.lemmas.Bool.{eq-eqb, le-leb}
use Rattle.std.proofs.lemmas.List.{set-set}
use Rattle.std.proofs.lemmas.Option.{slice_get_within}
use Rattle.std.proofs.lemmas.Slice.Eq.{bytes_eq-Decides}
use Rattle.spb_types.specs.declared.address.LspId.{LspId}
use Rattle.spb_types.proofs.PortLemmas.{has-with_other, has-without_other}
use Rattle.isis_pdu.specs.Pdu.{HelloValue}
use Rattle.spb_tlvs.specs.declared.three_way.ThreeWay.{ThreeWay}
use Rattle.spb_tlvs.specs.declared.neighbours.Neighbour.{Neighbour}
use Rattle.lsdb.specs.Version.{is_absent}
use Rattle.lsdb.specs.Entry.{Entry, flagged, srm_set_at, flags_cleared_at}
use Rattle.lsdb.specs.Database.{Lsps, each}
use Rattle.lsdb.proofs.LookupLemmas.{get-each}
use Rattle.flooding.specs.Own.{own_number}
use Rattle.flooding.specs.Settling.{settled, IsLspCurrent}
use Rattle.adjacency.specs.declared.state.AdjacencyChange.{AdjacencyChange}
use Rattle.adjacency.specs.declared.state.AdjacencyChange.TheVariants.{Kept, CameUp, LeftUp, Discarded}
use Rattle.adjacency.specs.declared.port.Adjacency.{Adjacency}
use Rattle.adjacency.specs.Hearing.{End, same_end, is_discarded}
use Rattle.adjacency.specs.Adjacency.{neighbour_of, is_up, after_hello_heard, after_hello, change_of, change_by_hello}
use Rattle.bridge_api.specs.declared.port.BridgePort.{BridgePort}
use Rattle.bridge_api.specs.View.{BridgeView, port_in, port_at, with_port_at, neighbour_at, is_port_up, is_up_in, is_up_at, up_ports}
use Rattle.bridge_api.specs.Own.{neighbour_in, neighbours_from, bodies_of, body_at, own_entry, holding_of, originated_if_changed}
use Rattle.bridge_api.specs.Hearing.{with_adjacency, with_csnp_due, left_up, all_srm_set_at, changed_at, heard_hello}
use Rattle.bridge_api.specs.Ports.{noted, heard_hello_port}
use Rattle.bridge_api.specs.Laws.{IsSoundView}
use Rattle.bridge_api.proofs.Adjacent.{up_keeps}
use Rattle.bridge_api.proofs.Bodies.{held_bodies, moved_bodies, same_at}
use Rattle.bridge_api.proofs.Certified.{noted_keeps}
use Rattle.bridge_api.proofs.Changes.{heard_hello_ports, originated_if_changed_ports}
use Rattle.bridge_api.proofs.OwnLspSteps.{IsSaying, saying_settles, was_saying}
use Rattle.bridge_api.proofs.Places.{got_at}
use Rattle.bridge_laws.proofs.StepsCarry.{Stood, stood}
use Rattle.bridge_rounds.proofs.FlagClaims.{AreSame, unchanged, then_same, mapped}

-- ---- a port that stays Up with its neighbour

-- a port is Up with this neighbour
pub record IsUpWith (p : ℕ) (n : End) (v : BridgeView) : Type 0 where
  pub up : is_up_at v p ≡ true
  pub neighbour : neighbour_at v p ≡ Some n

end_itself : (n : End) → same_end n n ≡ true
end_itself n = λ i. (bytes_eq-Decides n.0.mac.bytes n.0.mac.bytes).1 refl i && eq-eqb n.1 n.1 refl i

kept_at : (up_now up_before same away : Bool) → up_now ≡ true → up_before ≡ true → same ≡ true → away ≡ false → (if (up_now && not (up_before && same)) then CameUp else (if away then LeftUp else Kept)) ≡ Kept
kept_at true true true false a b c d = refl
kept_at true true true true a b c d = absurd cc
kept_at true true false away a b c d = absurd cc
kept_at true false same away a b c d = absurd cc
kept_at false up_before same away a b c d = absurd cc

-- of an adjacency that stays so nothing came to pass
stays_kept : (old new : Adjacency) (n : End) → is_up old.state ≡ true → is_up new.state ≡ true → neighbour_of old ≡ Some n → neighbour_of new ≡ Some n → change_of old new ≡ Kept
stays_kept old new n was now with_was with_now =
    let before : (old.neighbour, old.circuit) ≡ n = let e : Some (old.neighbour, old.circuit) ≡ Some n = sym (up_keeps old was) ∙ with_was in cc in
    let after : (new.neighbour, new.circuit) ≡ n = let e : Some (new.neighbour, new.circuit) ≡ Some n = sym (up_keeps new now) ∙ with_now in cc in
    let same : same_end (new.neighbour, new.circuit) (old.neighbour, old.circuit) ≡ true = (λ i. same_end (after i) (before i)) ∙ end_itself n in
    let away : (is_up old.state && not (is_up new.state)) ≡ false = λ i. was i && not (now i) in
    kept_at (is_up new.state) (is_up old.state) (same_end (new.neighbour, new.circuit) (old.neighbour, old.circuit)) (is_up old.state && not (is_up new.state)) now was same away

-- nothing but that a hello was heard or discarded
abbrev pub IsNoChange : AdjacencyChange → Type 0
IsNoChange heard = (heard ≡ Discarded) ⊎ (heard ≡ Kept)

module _ (h : HelloValue) (way : ThreeWay) (q : ℕ) (port : BridgePort) (v : BridgeView) where
  abbrev pub Change : AdjacencyChange
  Change = change_by_hello v.id.system q h way port.adjacency

  abbrev pub Next : BridgePort
  Next = with_adjacency (after_hello v.id.system q h way port.adjacency) port

  no_change_by : (n : End) (b : Bool) → is_up port.adjacency.state ≡ true → neighbour_of port.adjacency ≡ Some n
      → is_up (if b then port.adjacency else after_hello_heard h way port.adjacency).state ≡ true
      → neighbour_of (if b then port.adjacency else after_hello_heard h way port.adjacency) ≡ Some n
      → IsNoChange (if b then Discarded else change_of port.adjacency (after_hello_heard h way port.adjacency))
  no_change_by n true was with_was now with_now = inl refl
  no_change_by n false was with_was now with_now = inr (stays_kept port.adjacency (after_hello_heard h way port.adjacency) n was now with_was with_now)

  -- where the port stays so
  pub no_change : (n : End) (w : BridgeView) → 1 ≤ q → slice_get v.ports (q - 1) ≡ Some port → w.ports ≡ slice_set v.ports (q - 1) (noted Change Next) → IsUpWith q n v → IsUpWith q n w → IsNoChange Change
  unfolding is_up_at neighbour_at
  no_change n w low is ports before after =
      let was : port_at v q ≡ Some port = rw (le-leb 1 q low) is in
      let now : port_at w q ≡ Some (noted Change Next) = ap (λ (list : List BridgePort). port_in list q) ports ∙ (rw (le-leb 1 q low) (got_at v.ports (q - 1) (noted Change Next) (slice_get_within v.ports (q - 1) port is))) in
      let keeps : (noted Change Next).adjacency ≡ after_hello v.id.system q h way port.adjacency = noted_keeps Change Next in
      no_change_by n (is_discarded v.id.system q h way) (sym (ap is_up_in was) ∙ before.up)
      (sym (ap (λ (o : Option BridgePort). option_and_then (λ (x : BridgePort). neighbour_of x.adjacency) o) was) ∙ before.neighbour)
      (ap (λ (a : Adjacency). is_up a.state) (sym keeps) ∙ (sym (ap is_up_in now) ∙ after.up))
      (ap neighbour_of (sym keeps) ∙ (sym (ap (λ (o : Option BridgePort). option_and_then (λ (x : BridgePort). neighbour_of x.adjacency) o) now) ∙ after.neighbour))

-- ---- what the bridge has to say stays the same

abbrev pub SaysTheSame : BridgeView → BridgeView → Type 0
SaysTheSame w v = (number : ℕ) → body_at w number ≡ body_at v number

-- an origination says nothing else
originated_bodies : (u : BridgeView) → SaysTheSame (originated_if_changed u) u
unfolding originated_if_changed
originated_bodies u number = same_at number (bodies_of (originated_if_changed u)) (bodies_of u) (held_bodies (settled (up_ports u) (holding_of u)) u)

-- with other ports, and every entry changed in its flags alone
moved : (ports : List BridgePort) (db : Lsps) (v : BridgeView) → SaysTheSame (record v { ports = ports; database = db }) v
    → ((number : ℕ) → IsLspCurrent (body_at v number) (own_entry v number) → IsLspCurrent (body_at v number) (get db (own_number v.id.system number)))
    → IsSaying v → IsSaying (record v { ports = ports; database = db })
moved ports db v same keeps was fresh number below =
    subst (λ (b : Option (List ℕ)). IsLspCurrent b (get db (own_number v.id.system number))) (sym (same number)) (keeps number (was fresh number below))

cleared_says : (body : Option (List ℕ)) (q : ℕ) (o : Option Entry) → IsLspCurrent body o → IsLspCurrent body (option_map (flags_cleared_at q) o)
cleared_says body q None says = says
cleared_says None q (Some e) says = says
cleared_says (Some body) q (Some e) says = says

kept_settles : (q : ℕ) (new : BridgePort) (v : BridgeView) → IsSaying v → SaysTheSame (with_port_at q new v) v → originated_if_changed (with_port_at q new v) ≡ with_port_at q new v
kept_settles q new v was same = saying_settles (with_port_at q new v) (moved (slice_set v.ports (q - 1) new) v.database v same (λ number says. says) was)

left_settles : (q : ℕ) (new : BridgePort) (v : BridgeView) → IsSaying v → SaysTheSame (left_up q new v) v → originated_if_changed (left_up q new v) ≡ left_up q new v
left_settles q new v was same =
    saying_settles (left_up q new v)
    (moved (slice_set v.ports (q - 1) (with_csnp_due false new)) (each (λ x e. flags_cleared_at q e) v.database) v same
    (λ number says. subst (IsLspCurrent (body_at v number)) (sym (get-each (λ (x : LspId) (e : Entry). flags_cleared_at q e) v.database (own_number v.id.system number))) (cleared_says (body_at v number) q (own_entry v number) says)) was)

-- whether CSNPs are due isn't said
due_unsaid : (p i : ℕ) (port : BridgePort) (ports : List BridgePort) → neighbours_from p (slice_set ports i (with_csnp_due true port)) ≡ neighbours_from p (slice_set ports i (with_csnp_due false port))
due_unsaid p i port [] = refl
due_unsaid p zero port (x ∷ ports) = refl
due_unsaid p (suc i) port (x ∷ ports) = ap (λ (list : List Neighbour). if is_port_up x then neighbour_in p x ∷ list else list) (due_unsaid (p + 1) i port ports)

set_bodies : (q : ℕ) (new : BridgePort) (v u : BridgeView) → u.ports ≡ slice_set v.ports (q - 1) (with_csnp_due false new) → SaysTheSame (all_srm_set_at q new u) u
set_bodies q new v u ports number =
    let same : neighbours_from 1 (slice_set u.ports (q - 1) (with_csnp_due true new)) ≡ neighbours_from 1 u.ports =
    ap (λ (list : List BridgePort). neighbours_from 1 (slice_set list (q - 1) (with_csnp_due true new))) ports
    ∙ (ap (neighbours_from 1) (set-set v.ports (q - 1) (with_csnp_due false new) (with_csnp_due true new))
    ∙ (due_unsaid 1 (q - 1) new v.ports ∙ ap (neighbours_from 1) (sym ports))) in
    same_at number (bodies_of (all_srm_set_at q new u)) (bodies_of u) (moved_bodies (slice_set u.ports (q - 1) (with_csnp_due true new)) (each (λ x e. srm_set_at q e) u.database) u same)

-- ---- flags at another port

set_beside : (q p : ℕ) (e : Entry) (b : Bool) → 1 ≤ q → q ≤ 32 → p ≢ q → AreSame p (Some e) (Some (if b then e else flagged q e))
set_beside q p e true low high apart = record { srm = refl; ssn = refl }
set_beside q p e false low high apart = record { srm = has-with_other e.srm q p low high apart; ssn = refl }

each_same : (p : ℕ) (f : LspId → Entry → Entry) (db : Lsps) (x : LspId) → ((e : Entry) → AreSame p (Some e) (Some (f x e))) → AreSame p (get db x) (get (each f db) x)
each_same p f db x same = subst (AreSame p (get db x)) (sym (get-each f db x)) (mapped p (f x) (get db x) same)

left_beside : (q p : ℕ) (v : BridgeView) (new : BridgePort) (x : LspId) → 1 ≤ q → q ≤ 32 → p ≢ q → AreSame p (get v.database x) (get (left_up q new v).database x)
left_beside q p v new x low high apart =
    each_same p (λ id e. flags_cleared_at q e) v.database x (λ e. record { srm = has-without_other e.srm q p low high apart; ssn = has-without_other e.ssn q p low high apart })

-- what came to pass at a port, the flags at another one, or at this one where nothing came to pass
module _ (p q : ℕ) (old new : BridgePort) (v : BridgeView) (x : LspId) (at : Stood v q old) (was : IsSaying v) where
  apart_from : (heard : AdjacencyChange) → (p ≡ q → IsNoChange heard) → (heard ≡ Discarded → ⊥) → (heard ≡ Kept → ⊥) → p ≢ q
  apart_from heard none undropped unkept here = elim (none here) [
    | inl e ↦ undropped e
    | inr e ↦ unkept e
  ]

  changed_same : (heard : AdjacencyChange) → (p ≡ q → IsNoChange heard) → SaysTheSame (changed_at heard q new v) v → AreSame p (get v.database x) (get (changed_at heard q new v).database x)
  changed_same Discarded none same = record { srm = refl; ssn = refl }
  changed_same Kept none same =
      unchanged p (get v.database x) (get (changed_at Kept q new v).database x)
      (ap (λ (u : BridgeView). get u.database x) (kept_settles q new v was (λ number. sym (originated_bodies (with_port_at q new v) number) ∙ same number)))
  changed_same LeftUp none same =
      let u : BridgeView = left_up q new v in
      subst (λ (y : BridgeView). AreSame p (get v.database x) (get y.database x)) (sym (left_settles q new v was (λ number. sym (originated_bodies u number) ∙ same number)))
      (left_beside q p v new x at.low at.high (apart_from LeftUp none (λ e. cc) (λ e. cc)))
  changed_same CameUp none same =
      let u : BridgeView = left_up q new v in
      let y : BridgeView = originated_if_changed u in
      let apart : p ≢ q = apart_from CameUp none (λ e. cc) (λ e. cc) in
      let says : SaysTheSame u v = λ number. sym (originated_bodies u number) ∙ (sym (set_bodies q new v y (originated_if_changed_ports u) number) ∙ same number) in
      let left : AreSame p (get v.database x) (get y.database x) =
      subst (λ (z : BridgeView). AreSame p (get v.database x) (get z.database x)) (sym (left_settles q new v was says)) (left_beside q p v new x at.low at.high apart) in
      then_same p (get v.database x) (get y.database x) (get (all_srm_set_at q new y).database x) left
      (each_same p (λ id e. srm_set_at q e) y.database x (λ e. set_beside q p e (is_absent e.version) at.low at.high apart))

-- ---- a hello

pub hello_same : (h : HelloValue) (way : ThreeWay) (q p : ℕ) (n : End) (port : BridgePort) (v w : BridgeView) (x : LspId) → IsSoundView v → port_at v q ≡ Some port → w ≡ heard_hello h way q port v
    → IsUpWith p n v → IsUpWith p n w → SaysTheSame w v → AreSame p (get v.database x) (get w.database x)
hello_same h way q p n port v w x sound there is before after says =
    let at : Stood v q port = stood v q port sound.few there in
    let ports : w.ports ≡ slice_set v.ports (q - 1) (heard_hello_port v.id.system q h way port) = ap (λ (u : BridgeView). u.ports) is ∙ heard_hello_ports h way q port v there in
    subst (λ (u : BridgeView). AreSame p (get v.database x) (get u.database x)) (sym is)
    (changed_same p q port (with_adjacency (after_hello v.id.system q h way port.adjacency) port) v x at (was_saying v sound) (change_by_hello v.id.system q h way port.adjacency)
    (λ here. no_change h way q port v n w at.low at.is ports (subst (λ (k : ℕ). IsUpWith k n v) here before) (subst (λ (k : ℕ). IsUpWith k n w) here after))
    (subst (λ (u : BridgeView). SaysTheSame u v) is says))
