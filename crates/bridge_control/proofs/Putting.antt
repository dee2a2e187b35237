-- A port that comes into a new state.
use Rattle.std.proofs.Common.{◌≡◌, ◌≤◌, ◌<◌, ◌-◌, ◌+◌, ℕ, zero, suc, Bool, true, false, List, [], ◌∷◌, length, refl, sym, ap, ◌∙◌, subst, Some, arith}
use Rattle.std.specs.Prelude.{slice_get, slice_set, not, ◌&&◌, if◌then◌else◌}
use Rattle.std.specs.List.{AllByRecursion}
use Rattle.std.proofs.lemmas.List.{length-set, set-set}
use Rattle.std.proofs.lemmas.Bool.{le-leb}
use Rattle.spb_types.specs.declared.address.SystemId.{SystemId}
use Rattle.isis_pdu.specs.Pdu.{HelloValue}
use Rattle.spb_tlvs.specs.declared.neighbours.Neighbour.{Neighbour}
use Rattle.spb_tlvs.specs.declared.three_way.ThreeWay.{ThreeWay}
use Rattle.lsdb.specs.Entry.{flags_cleared_at, srm_set_at}
use Rattle.lsdb.specs.Database.{Lsps, each}
use Rattle.flooding.specs.declared.own.Own.{Own}
use Rattle.flooding.specs.Settling.{AreCurrent}
use Rattle.flooding.specs.Room.{most_others, others}
use Rattle.flooding.proofs.Few.{changing_keeps_others}
use Rattle.spb_content.specs.Local.{IsLocal}
use Rattle.adjacency.specs.declared.state.AdjacencyChange.{AdjacencyChange}
use Rattle.adjacency.specs.declared.state.AdjacencyChange.TheVariants.{Kept, CameUp, LeftUp, Discarded}
use Rattle.adjacency.specs.declared.port.Adjacency.{Adjacency}
use Rattle.adjacency.specs.Hearing.{End, same_end, is_discarded}
use Rattle.adjacency.specs.Adjacency.{is_up, after_hello_heard, after_hello, after_carrier, change_of, change_by_hello}
use Rattle.bridge_api.specs.declared.port.BridgePort.{BridgePort}
use Rattle.bridge_api.specs.View.{BridgeView, IsPort, port_in, port_at, with_port_at, is_port_up, has_carrier_in, has_carrier_at}
use Rattle.bridge_api.specs.Own.{neighbour_in, neighbours_from, local_of, own_of, originated_if_changed}
use Rattle.bridge_api.specs.Config.{IsMetric}
use Rattle.bridge_api.specs.Hearing.{with_adjacency, with_csnp_due, left_up, all_srm_set_at, entered_up, changed_at, with_carrier, with_port_metric, with_metric}
use Rattle.bridge_api.specs.Laws.{IsSoundPort}
use Rattle.bridge_api.proofs.Adjacent.{same_is}
use Rattle.bridge_api.proofs.Changes.{originated_if_changed_ports, with_carrier_is, with_metric_is}
use Rattle.bridge_api.proofs.OwnLspSteps.{saying_settles}
use Rattle.bridge_api.proofs.Places.{set_again}
use Rattle.bridge_api.proofs.Saying.{is_local}
use Rattle.bridge_api.proofs.SoundPorts.{AreSoundPorts, sound_at}
use Rattle.bridge_control.specs.declared.machine.Machine.{Machine}
use Rattle.bridge_control.specs.Machine.{view_of, FollowsPorts, IsCurrent, IsReady, CanOriginate, IsAfter, CanPut, IsPut, SaysTheSame}
use Rattle.bridge_control.proofs.Owning.{said_alike, renewed_current, ready_can}

-- ---- two ports of which the same is said

abbrev pub said_of : Bool → Neighbour → List Neighbour → List Neighbour
said_of up n rest = if up then n ∷ rest else rest

abbrev pub AreSaidAlike : BridgePort → BridgePort → Type 0
AreSaidAlike a b = (p : ℕ) (rest : List Neighbour) → said_of (is_port_up a) (neighbour_in p a) rest ≡ said_of (is_port_up b) (neighbour_in p b) rest

pub alike_neighbours : (ports : List BridgePort) (i p : ℕ) (a b : BridgePort) → AreSaidAlike a b → neighbours_from p (slice_set ports i a) ≡ neighbours_from p (slice_set ports i b)
alike_neighbours [] i p a b alike = refl
alike_neighbours (x ∷ ports) zero p a b alike = alike p (neighbours_from (p + 1) ports)
alike_neighbours (x ∷ ports) (suc i) p a b alike = ap (λ (rest : List Neighbour). said_of (is_port_up x) (neighbour_in p x) rest) (alike_neighbours ports i (p + 1) a b alike)

-- neither is Up
pub both_down : (a b : BridgePort) → is_port_up a ≡ false → is_port_up b ≡ false → AreSaidAlike a b
both_down a b down_a down_b p rest = ap (λ up. said_of up (neighbour_in p a) rest) down_a ∙ sym (ap (λ up. said_of up (neighbour_in p b) rest) down_b)

-- a port that was kept is Up with the same neighbour, or isn't Up before and after
kept_at : (now before same : Bool) (x y : Neighbour) (rest : List Neighbour) → (if (now && not (before && same)) then CameUp else (if (before && not now) then LeftUp else Kept)) ≡ Kept → (same ≡ true → x ≡ y) → said_of now x rest ≡ said_of before y rest
kept_at true true true x y rest e is = ap (λ n. n ∷ rest) (is refl)
kept_at true true false x y rest e is = absurd cc
kept_at true false same x y rest e is = absurd cc
kept_at false true same x y rest e is = absurd cc
kept_at false false same x y rest e is = refl

pub kept_alike : (port : BridgePort) (new : Adjacency) → change_of port.adjacency new ≡ Kept → AreSaidAlike (with_adjacency new port) port
kept_alike port new kept p rest =
    let old : Adjacency = port.adjacency in
    kept_at (is_up new.state) (is_up old.state) (same_end (new.neighbour, new.circuit) (old.neighbour, old.circuit)) (neighbour_in p (with_adjacency new port)) (neighbour_in p port) rest kept
    (λ same. ap (λ (n : End). record { system = n.0; metric = port.metric; port = p }) (same_is (new.neighbour, new.circuit) (old.neighbour, old.circuit) same))

hello_kept_at : (discarded : Bool) (port : BridgePort) (new : Adjacency) → (if discarded then Discarded else change_of port.adjacency new) ≡ Kept → AreSaidAlike (with_adjacency (if discarded then port.adjacency else new) port) port
hello_kept_at true port new kept = absurd cc
hello_kept_at false port new kept = kept_alike port new kept

pub hello_kept : (me : SystemId) (q : ℕ) (h : HelloValue) (way : ThreeWay) (port : BridgePort) → change_by_hello me q h way port.adjacency ≡ Kept → AreSaidAlike (with_adjacency (after_hello me q h way port.adjacency) port) port
hello_kept me q h way port kept = hello_kept_at (is_discarded me q h way) port (after_hello_heard h way port.adjacency) kept

-- ---- a port of a number

pub got : (v : BridgeView) (p : ℕ) (port : BridgePort) → IsPort v p → port_at v p ≡ Some port → slice_get v.ports (p - 1) ≡ Some port
got v p port is there = sym (rw (le-leb 1 p is.low) refl) ∙ there

pub says_the_same : (m : Machine) (p : ℕ) (old new : BridgePort) → IsPort (view_of m) p → port_at (view_of m) p ≡ Some old → AreSaidAlike new old → SaysTheSame p new m
says_the_same m p old new is there alike =
    let ports : List BridgePort = m.ports.items in
    said_alike (view_of m) (slice_set ports (p - 1) new) m.db m.own.spent (alike_neighbours ports (p - 1) 1 new old alike ∙ ap (neighbours_from 1) (set_again ports (p - 1) old (got (view_of m) p old is there)))

-- ---- what can be said with a port in a new state

all_metrics : (ports : List BridgePort) → AreSoundPorts ports → AllByRecursion (λ (port : BridgePort). IsMetric port.metric) ports
all_metrics [] all = tt
all_metrics (x ∷ ports) all = (all.0.metric, all_metrics ports all.1)

set_metrics : (ports : List BridgePort) (i : ℕ) (new : BridgePort) → AreSoundPorts ports → IsMetric new.metric → AllByRecursion (λ (port : BridgePort). IsMetric port.metric) (slice_set ports i new)
set_metrics [] i new all is = tt
set_metrics (x ∷ ports) zero new all is = (is, all_metrics ports all.1)
set_metrics (x ∷ ports) (suc i) new all is = (all.0.metric, set_metrics ports i new all.1 is)

said_metrics : (up : Bool) (p : ℕ) (port : BridgePort) (rest : List Neighbour) → IsMetric port.metric → AllByRecursion (λ (n : Neighbour). n.metric < 16777216) rest → AllByRecursion (λ (n : Neighbour). n.metric < 16777216) (said_of up (neighbour_in p port) rest)
said_metrics true p port rest is all = (omega (arith, is.high), all)
said_metrics false p port rest is all = all

few_metrics : (p : ℕ) (ports : List BridgePort) → AllByRecursion (λ (port : BridgePort). IsMetric port.metric) ports → AllByRecursion (λ (n : Neighbour). n.metric < 16777216) (neighbours_from p ports)
few_metrics p [] all = tt
few_metrics p (port ∷ ports) all = said_metrics (is_port_up port) p port (neighbours_from (p + 1) ports) all.0 (few_metrics (p + 1) ports all.1)

pub local_with : (m : Machine) (p : ℕ) (new : BridgePort) → IsReady m → IsMetric new.metric → IsLocal (local_of (with_port_at p new (view_of m)))
local_with m p new ready is =
    let v : BridgeView = view_of m in
    let l : IsLocal (local_of v) = is_local v ready.sound.config ready.sound.few ready.sound.ports in
    record {
      source = l.source;
      few_vids = l.few_vids;
      vids = l.vids;
      vids_apart = l.vids_apart;
      metrics = few_metrics 1 (slice_set v.ports (p - 1) new) (set_metrics v.ports (p - 1) new ready.sound.ports is);
      attached = l.attached;
      one_vid = l.one_vid;
      few_isids = l.few_isids;
    }

pub can_put : (m : Machine) (p : ℕ) (new : BridgePort) → IsReady m → IsPort (view_of m) p → IsMetric new.metric → CanPut p new m
can_put m p new ready is metric = record { port = is; can = ready_can m ready; current = ready.current; local = local_with m p new ready metric; own_lsp = ready.sound.own }

-- a port that is kept: the own LSPs say what the bridge has to say still
pub kept_after : (m n : Machine) (p : ℕ) (new : BridgePort) → CanPut p new m → SaysTheSame p new m → IsPut p new m n → IsAfter (originated_if_changed (with_port_at p new (view_of m))) n
kept_after m n p new can same is =
    let w : BridgeView = with_port_at p new (view_of m) in
    let says : own_of (view_of m) ≡ own_of w = λ i. record { system = m.id.system; bodies = sym same i; spent = m.own.spent } in
    record {
      view = is.view ∙ sym (saying_settles w (subst (λ (own : Own). AreCurrent (record { db = m.db; own = own })) says can.own_lsp.current));
      current = record { own = is.own ∙ (can.current.own ∙ (says ∙ ap own_of (sym is.view))); ports = is.ports };
    }

-- ---- a port that was put

pub put_few : (m n : Machine) (p : ℕ) (new : BridgePort) → length m.ports.items ≤ 32 → IsPut p new m n → length n.ports.items ≤ 32
put_few m n p new few is = omega (arith, few, ap (λ (v : BridgeView). length v.ports) is.view, length-set m.ports.items (p - 1) new)

pub put_system : (m n : Machine) (p : ℕ) (new : BridgePort) → IsCurrent m → IsPut p new m n → n.own.system ≡ n.id.system
put_system m n p new current is = ap (λ (o : Own). o.system) (is.own ∙ current.own) ∙ sym (ap (λ (v : BridgeView). v.id.system) is.view)

put_room : (m n : Machine) (p : ℕ) (new : BridgePort) → IsPut p new m n → others m.id.system m.db ≤ most_others → others n.id.system n.db ≤ most_others
put_room m n p new is room = subst (λ (v : BridgeView). others v.id.system v.database ≤ most_others) (sym is.view) room

-- ---- leaving and entering Up

-- a port leaves Up
left_view : (m n : Machine) (p : ℕ) (new : BridgePort) (db : Lsps) → IsPut p (with_csnp_due false new) m n → db ≡ each (λ id e. flags_cleared_at p e) n.db → view_of (record n { db = db }) ≡ left_up p new (view_of m)
left_view m n p new db is parts =
    (λ i. record (view_of n) { database = parts i }) ∙ ap (λ (v : BridgeView). record v { database = each (λ id e. flags_cleared_at p e) v.database }) is.view

pub left_local : (m n : Machine) (p : ℕ) (new : BridgePort) (db : Lsps) → CanPut p new m → IsPut p (with_csnp_due false new) m n → db ≡ each (λ id e. flags_cleared_at p e) n.db → IsLocal (local_of (view_of (record n { db = db })))
left_local m n p new db can is parts =
    let v : BridgeView = view_of m in
    let l = can.local in
    let same : neighbours_from 1 (slice_set v.ports (p - 1) (with_csnp_due false new)) ≡ neighbours_from 1 (slice_set v.ports (p - 1) new) = alike_neighbours v.ports (p - 1) 1 (with_csnp_due false new) new (λ q rest. refl) in
    subst (λ (w : BridgeView). IsLocal (local_of w)) (sym (left_view m n p new db is parts)) (record {
      source = l.source;
      few_vids = l.few_vids;
      vids = l.vids;
      vids_apart = l.vids_apart;
      metrics = subst (λ (ns : List Neighbour). AllByRecursion (λ (n : Neighbour). n.metric < 16777216) ns) (sym same) l.metrics;
      attached = l.attached;
      one_vid = l.one_vid;
      few_isids = l.few_isids;
    })

pub left_can : (m n k : Machine) (p : ℕ) (new : BridgePort) (db : Lsps) (own : Own) → CanPut p new m → IsPut p (with_csnp_due false new) m n → db ≡ each (λ id e. flags_cleared_at p e) n.db → k ≡ record n { db = db; own = own } → CanOriginate k
left_can m n k p new db own can is parts renewed =
    subst CanOriginate (sym renewed) (record {
      few = put_few m n p (with_csnp_due false new) can.can.few is;
      room = subst (λ (d : Lsps). others n.id.system d ≤ most_others) (sym parts)
          (subst (λ k. k ≤ most_others) (sym (changing_keeps_others n.id.system (λ id e. flags_cleared_at p e) n.db)) (put_room m n p (with_csnp_due false new) is can.can.room));
    })

pub left_current : (n k : Machine) (db : Lsps) → FollowsPorts n → k ≡ record n { db = db; own = own_of (view_of (record n { db = db })) } → IsCurrent k
left_current n k db follows is = renewed_current (record n { db = db }) k (record { hellos = follows.hellos; up = follows.up; me = follows.me; heard = follows.heard }) is

pub left_path : (m n k : Machine) (p : ℕ) (new : BridgePort) (db : Lsps) → IsPut p (with_csnp_due false new) m n → db ≡ each (λ id e. flags_cleared_at p e) n.db → k ≡ record n { db = db; own = own_of (view_of (record n { db = db })) }
    → originated_if_changed (view_of k) ≡ originated_if_changed (left_up p new (view_of m))
left_path m n k p new db is parts renewed = ap originated_if_changed (ap view_of renewed ∙ left_view m n p new db is parts)

-- a port enters Up
left_ports : (m n : Machine) (p : ℕ) (new : BridgePort) → IsAfter (originated_if_changed (left_up p new (view_of m))) n → n.ports.items ≡ slice_set m.ports.items (p - 1) (with_csnp_due false new)
left_ports m n p new after = ap (λ (v : BridgeView). v.ports) after.view ∙ originated_if_changed_ports (left_up p new (view_of m))

pub left_high : (m n : Machine) (p : ℕ) (new : BridgePort) → IsPort (view_of m) p → IsAfter (originated_if_changed (left_up p new (view_of m))) n → p ≤ length n.ports.items
left_high m n p new is after = omega (arith, is.high, ap length (left_ports m n p new after), length-set m.ports.items (p - 1) (with_csnp_due false new))

pub entering_port : (m n : Machine) (p : ℕ) (new : BridgePort) → IsPort (view_of m) p → IsAfter (originated_if_changed (left_up p new (view_of m))) n → IsPort (view_of n) p
entering_port m n p new is after = record { low = is.low; high = left_high m n p new is after }

pub entering_few : (m n : Machine) (p : ℕ) (new : BridgePort) → length m.ports.items ≤ 32 → IsAfter (originated_if_changed (left_up p new (view_of m))) n → length n.ports.items ≤ 32
entering_few m n p new few after = omega (arith, few, ap length (left_ports m n p new after), length-set m.ports.items (p - 1) (with_csnp_due false new))

pub entering_after : (m n k : Machine) (p : ℕ) (new : BridgePort) (db : Lsps) → IsAfter (originated_if_changed (left_up p new (view_of m))) n → IsPut p (with_csnp_due true new) n k → db ≡ each (λ id e. srm_set_at p e) k.db → IsAfter (entered_up p new (view_of m)) (record k { db = db })
entering_after m n k p new db after is joins =
    let olds : List BridgePort = m.ports.items in
    let due : List BridgePort = slice_set n.ports.items (p - 1) (with_csnp_due true new) in
    let before : n.ports.items ≡ slice_set olds (p - 1) (with_csnp_due false new) = left_ports m n p new after in
    let now : due ≡ slice_set olds (p - 1) (with_csnp_due true new) = ap (λ (items : List BridgePort). slice_set items (p - 1) (with_csnp_due true new)) before ∙ set-set olds (p - 1) (with_csnp_due false new) (with_csnp_due true new) in
    let same : neighbours_from 1 due ≡ neighbours_from 1 n.ports.items = ap (neighbours_from 1) now ∙ (alike_neighbours olds (p - 1) 1 (with_csnp_due true new) (with_csnp_due false new) (λ q rest. refl) ∙ sym (ap (neighbours_from 1) before)) in
    let u : BridgeView = record (view_of n) { ports = due; database = each (λ id e. srm_set_at p e) n.db } in
    let view : view_of (record k { db = db }) ≡ u = (λ i. record (view_of k) { database = joins i }) ∙ ap (λ (v : BridgeView). record v { database = each (λ id e. srm_set_at p e) v.database }) is.view in
    let says : own_of (view_of n) ≡ own_of u = λ i. record { system = n.id.system; bodies = sym (said_alike (view_of n) due (each (λ id e. srm_set_at p e) n.db) n.own.spent same) i; spent = n.own.spent } in
    record {
      view = view ∙ ap (all_srm_set_at p new) after.view;
      current = record { own = is.own ∙ (after.current.own ∙ (says ∙ ap own_of (sym view))); ports = record { hellos = is.ports.hellos; up = is.ports.up; me = is.ports.me; heard = is.ports.heard } };
    }

-- ---- a hello, a change of carrier and a metric

-- the port that the code looks at
pub there_at : (m : Machine) (items : List BridgePort) (p : ℕ) (port : BridgePort) → items ≡ m.ports.items → port_in items p ≡ Some port → port_at (view_of m) p ≡ Some port
there_at m items p port same is = ap (λ (list : List BridgePort). port_in list p) (sym same) ∙ is

pub carrier_there : (v : BridgeView) (p : ℕ) (port : BridgePort) → port_at v p ≡ Some port → has_carrier_at v p ≡ port.adjacency.carrier
unfolding has_carrier_at
carrier_there v p port there = ap has_carrier_in there

pub sound_there : (m : Machine) (p : ℕ) (port : BridgePort) → IsReady m → port_at (view_of m) p ≡ Some port → IsSoundPort port
sound_there m p port ready there = sound_at (view_of m) p port ready.sound.ports there

-- a port with another adjacency can be put
pub can_change : (m : Machine) (p : ℕ) (port : BridgePort) (new : Adjacency) → IsReady m → IsPort (view_of m) p → port_at (view_of m) p ≡ Some port → CanPut p (with_adjacency new port) m
can_change m p port new ready is there = can_put m p (with_adjacency new port) ready is (sound_there m p port ready there).metric

pub kept_says : (m : Machine) (p : ℕ) (port : BridgePort) (new a : Adjacency) → IsPort (view_of m) p → port_at (view_of m) p ≡ Some port → new ≡ a → AreSaidAlike (with_adjacency a port) port → SaysTheSame p (with_adjacency new port) m
kept_says m p port new a is there same alike =
    says_the_same m p port (with_adjacency new port) is there (subst (λ (x : Adjacency). AreSaidAlike (with_adjacency x port) port) (sym same) alike)

pub with_carrier_path : (v : BridgeView) (p : ℕ) (on : Bool) (port : BridgePort) (new : Adjacency) (heard : AdjacencyChange) → IsPort v p → port_at v p ≡ Some port → new ≡ after_carrier on port.adjacency → heard ≡ change_of port.adjacency new → changed_at heard p (with_adjacency new port) v ≡ with_carrier p on v
with_carrier_path v p on port new heard is there same did =
    let came : heard ≡ change_of port.adjacency (after_carrier on port.adjacency) = did ∙ ap (change_of port.adjacency) same in
    (λ i. changed_at (came i) p (with_adjacency (same i) port) v) ∙ sym (with_carrier_is v p on port is.low (got v p port is there))

pub with_metric_local : (m n : Machine) (p : ℕ) (new : BridgePort) → IsReady m → IsMetric new.metric → IsPut p new m n → IsLocal (local_of (view_of n))
with_metric_local m n p new ready metric is = subst (λ (v : BridgeView). IsLocal (local_of v)) (sym is.view) (local_with m p new ready metric)

pub with_metric_can : (m n k : Machine) (p : ℕ) (new : BridgePort) (own : Own) → IsReady m → IsPut p new m n → k ≡ record n { own = own } → CanOriginate k
with_metric_can m n k p new own ready is renewed =
    let can : CanOriginate m = ready_can m ready in
    subst CanOriginate (sym renewed) (record { few = put_few m n p new can.few is; room = put_room m n p new is can.room })

pub with_metric_path : (m n k : Machine) (p metric : ℕ) (port : BridgePort) → IsPort (view_of m) p → port_at (view_of m) p ≡ Some port → IsPut p (with_port_metric metric port) m n → k ≡ record n { own = own_of (view_of n) } → originated_if_changed (view_of k) ≡ with_metric p metric (view_of m)
with_metric_path m n k p metric port is there put renewed =
    let v : BridgeView = view_of m in
    ap originated_if_changed (ap view_of renewed ∙ put.view) ∙ sym (with_metric_is v p metric port is.low (got v p port is there))
