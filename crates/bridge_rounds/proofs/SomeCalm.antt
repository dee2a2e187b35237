-- A bridge that passes a second in calm: one that is Up with a neighbour, as it is when all of its LSPs were just
-- originated, and nothing is left to be sent.
use Rattle.std.proofs.Common.{◌≡◌, inl, inr, ℕ, zero, suc, ◌-◌, ◌≤◌, Bool, true, false, List, [], ◌∷◌, length, map, refl, sym, ap, ◌∙◌, subst, Option, Some, None, arith}
use Rattle.std.specs.Prelude.{◌==◌, ◌||◌, slice_get, if◌then◌else◌, IsTrue}
use Rattle.std.specs.List.{list_any}
use Rattle.std.specs.Option.{option_map, option_and_then}
use Rattle.std.specs.FinMap.{get}
use Rattle.std.proofs.lemmas.Bool.{cases_eq, ne_eqb, true≢false}
use Rattle.std.proofs.lemmas.List.{length-map}
use Rattle.std.proofs.lemmas.Option.{same_Some}
use Rattle.spb_types.specs.declared.address.BridgeId.{BridgeId}
use Rattle.spb_types.specs.declared.address.LspId.{LspId}
use Rattle.spb_types.specs.declared.address.SystemId.{SystemId}
use Rattle.spb_types.specs.declared.ports.PortSet.{PortSet}
use Rattle.spb_types.specs.Ports.{has, no_ports}
use Rattle.spb_types.proofs.PortLemmas.{has-no_ports}
use Rattle.isis_pdu.specs.Pdu.{HelloValue, LspValue}
use Rattle.isis_pdu.specs.Grammar.{is_sound_lsp}
use Rattle.spb_tlvs.specs.declared.three_way.ThreeWay.{ThreeWay}
use Rattle.itag_frames.specs.Classify.{ControlAgain}
use Rattle.lsdb.specs.declared.version.Version.{Version}
use Rattle.lsdb.specs.declared.version.Version.TheVariants.{Absent, Live, Dead}
use Rattle.lsdb.specs.Entry.{Entry, AreKept, lifetime_at}
use Rattle.lsdb.specs.Database.{Lsps, version_in, srm_in, ssn_in, each, any_flags}
use Rattle.lsdb.specs.Time.{is_live, lifetime_in}
use Rattle.lsdb.proofs.Flags.{without_due}
use Rattle.lsdb.proofs.LookupLemmas.{get-each}
use Rattle.flooding.specs.Own.{own_number}
use Rattle.flooding.specs.Sending.{lsp_in}
use Rattle.flooding.specs.Settling.{Lasts, IsLspCurrent}
use Rattle.flooding.proofs.OwnNumbers.{some_number}
use Rattle.adjacency.specs.declared.state.AdjState.TheVariants.{Initializing, Up}
use Rattle.adjacency.specs.declared.port.Adjacency.{Adjacency}
use Rattle.adjacency.specs.Hearing.{keeps_up}
use Rattle.adjacency.specs.Adjacency.{down, keeping, neighbour_of, is_up, after_hello, said}
use Rattle.bridge_api.specs.declared.port.BridgePort.{BridgePort}
use Rattle.bridge_api.specs.View.{BridgeView, IsPort, port_in, adjacency_at, neighbour_at, is_up_in, is_up_at, has_carrier_in, has_carrier_at, up_ports, has_flags as has_work}
use Rattle.bridge_api.specs.Calm.{KeepsAll, IsCalmFor}
use Rattle.bridge_api.specs.Config.{IsWhole, configured}
use Rattle.bridge_api.specs.Own.{body_at, own_entry}
use Rattle.bridge_api.specs.Parsing.{parsed}
use Rattle.bridge_api.specs.Parsing as parsing
use Rattle.bridge_api.specs.Hearing.{with_csnp_due}
use Rattle.bridge_api.specs.Ticking.{hello_at, hello_frame}
use Rattle.bridge_api.specs.Step.{frame, carrier, step, frames_at}
use Rattle.bridge_api.specs.Laws.{IsSoundView, with_first_carrier}
use Rattle.bridge_api.proofs.Certified.{steps_keep_bridge}
use Rattle.bridge_api.proofs.Changes.{found, configured_is, configured_ports}
use Rattle.bridge_api.proofs.Data.{KeepsEntry, Holds, each_keeps, lsps_of, has_lsps}
use Rattle.bridge_api.proofs.Hellos.{hello_heard}
use Rattle.bridge_api.proofs.Meeting.{Starts, heard_down, with_carrier_starts, small, small_whole}
use Rattle.bridge_api.proofs.OwnLspSteps.{IsSaying, was_saying, moved_saying, neighbours_without_csnp_due}
use Rattle.bridge_api.proofs.OwnPorts.{others_of}
use Rattle.bridge_api.proofs.Sound.{configured_is_sound, steps_stay_sound}
use Rattle.bridge_api.proofs.SoundPorts.{all_undue, config_kept}
use Rattle.bridge_laws.proofs.FewHeld.{configured_holds_few, steps_hold_few}
use Rattle.bridge_rounds.specs.Calm.{IsGreeting, IsGreeted, SomeBridgeIsCalm}
use Rattle.bridge_rounds.specs.Inbox.{Inbox}
use Rattle.bridge_rounds.proofs.HelloMoves.{hello_moves}

-- ---- at rest

-- an entry as if it was just originated and sent
abbrev at_rest : Entry → Entry
at_rest e = record e { lifetime = lifetime_at e.version 1200; srm = no_ports; ssn = no_ports }

abbrev all_at_rest : Lsps → Lsps
all_at_rest db = each (λ id e. at_rest e) db

-- a bridge that holds such entries, and has no CSNPs due
abbrev resting : BridgeView → BridgeView
resting v = record v { ports = map (with_csnp_due false) v.ports; database = all_at_rest v.database }

rest_clean : (a : Version) (lifetime : ℕ) (body : List ℕ) → AreKept a lifetime body → AreKept a (lifetime_at a 1200) body
rest_clean Absent lifetime body kept = (refl, kept.1)
rest_clean (Live seq sum) lifetime body kept = (omega arith, kept.1)
rest_clean (Dead seq) lifetime body kept = (refl, kept.1)

sound_by : (a b c : Bool) → a ≡ false → ((a || b) || c) ≡ true → (d : Bool) → ((d || b) || c) ≡ true
sound_by a b c lives sound true = refl
sound_by a b c lives sound false = sym (ap (λ x. (x || b) || c) lives) ∙ sound

-- a checksum that holds doesn't depend on the lifetime that is left
rest_sound : (a : Version) (l : LspValue) (body : List ℕ) → AreKept a l.lifetime body → IsTrue (is_sound_lsp l) → IsTrue (is_sound_lsp (record l { lifetime = lifetime_at a 1200 }))
unfolding is_sound_lsp
rest_sound Absent l body kept sound = refl
rest_sound (Live seq sum) l body kept sound = sound_by (l.lifetime == 0) (l.seq == 0) _ (ne_eqb l.lifetime 0 (λ e. let some = kept.0 in absurd (omega (arith, some, e)))) sound (1200 == 0)
rest_sound (Dead seq) l body kept sound = refl

rest_short : (a : Version) → lifetime_at a 1200 ≤ 1200
rest_short Absent = omega arith
rest_short (Live seq sum) = omega arith
rest_short (Dead seq) = omega arith

rest_keeps : (up next : PortSet) → KeepsEntry up next (λ id e. at_rest e)
rest_keeps up next = record {
  sendable = λ x e s. record {
    numbered = s.numbered;
    clean = rest_clean e.version e.lifetime e.body s.clean;
    written = s.written;
    sound = rest_sound e.version (lsp_in x e) e.body s.clean s.sound;
  };
  sized = λ x e s. record {
    named = s.named;
    entry = record { lifetime = omega (arith, rest_short e.version); system = s.entry.system; seq = s.entry.seq; sum = s.entry.sum };
  };
  octets = λ x e was. was;
  flags = λ x e flags. record {
    srm = λ p on. absurd (true≢false (sym on ∙ has-no_ports p));
    ssn = λ p on. absurd (true≢false (sym on ∙ has-no_ports p));
    absent = λ gone p. has-no_ports p;
  };
  there = λ x e there. there;
  text = λ number x e was. was;
}

rest_lasts : (a : Version) (lifetime : ℕ) → Lasts a lifetime → Lasts a (lifetime_at a 1200)
rest_lasts Absent lifetime lasts = absurd lasts
rest_lasts (Live seq sum) lifetime lasts = (omega arith, omega arith)
rest_lasts (Dead seq) lifetime lasts = absurd lasts

rest_says : (body : Option (List ℕ)) (o : Option Entry) → IsLspCurrent body o → IsLspCurrent body (option_map at_rest o)
rest_says body None says = says
rest_says None (Some e) says = says
rest_says (Some body) (Some e) says = (says.0, rest_lasts e.version e.lifetime says.1)

resting_sound : (v : BridgeView) → IsSoundView v → IsSoundView (resting v)
resting_sound v was =
    let w : BridgeView = resting v in
    let held : Holds w = each_keeps (up_ports v) (up_ports w) v.id.system (λ id e. at_rest e) v.database (rest_keeps (up_ports v) (up_ports w)) (lsps_of v was.database was.own) in
    let saying : IsSaying w =
    moved_saying w.ports w.database v (neighbours_without_csnp_due 1 v.ports)
    (λ number says. subst (IsLspCurrent (body_at v number)) (sym (get-each (λ id e. at_rest e) v.database (own_number v.id.system number))) (rest_says (body_at v number) (own_entry v number) says)) (was_saying v was) in
    record {
      config = config_kept v w refl was.config;
      few = omega (arith, length-map v.ports (with_csnp_due false), was.few);
      ports = all_undue v.ports was.ports;
      database = has_lsps w held;
      own = record { current = saying; text = held.text 0 (omega (arith, some_number)); others = others_of w held.text };
      learned = was.learned;
    }

-- ---- it is calm

no_flags : (o : Option Entry) (p : ℕ) → (has (srm_in (option_map at_rest o)) p ≡ false) × (has (ssn_in (option_map at_rest o)) p ≡ false)
no_flags None p = (has-no_ports p, has-no_ports p)
no_flags (Some e) p = (has-no_ports p, has-no_ports p)

none_flagged : (db : Lsps) → any_flags (all_at_rest db) ≡ false
none_flagged db = without_due (all_at_rest db) (λ id p. subst (λ (o : Option Entry). (has (srm_in o) p ≡ false) × (has (ssn_in o) p ≡ false)) (sym (get-each (λ id e. at_rest e) db id)) (no_flags (get db id) p))

live_lasts : (a : Version) → is_live a ≡ true → lifetime_at a 1200 ≡ 1200
live_lasts Absent live = absurd cc
live_lasts (Live seq sum) live = refl
live_lasts (Dead seq) live = absurd cc

lasts_in : (o : Option Entry) → is_live (version_in (option_map at_rest o)) ≡ true → lifetime_in (option_map at_rest o) ≡ 1200
lasts_in None live = absurd cc
lasts_in (Some e) live = live_lasts e.version live

lasts : (db : Lsps) (id : LspId) → is_live (version_in (get (all_at_rest db) id)) ≡ true → lifetime_in (get (all_at_rest db) id) ≡ 1200
lasts db id live =
    let is = get-each (λ id e. at_rest e) db id in
    ap lifetime_in is ∙ lasts_in (get db id) (sym (ap (λ (o : Option Entry). is_live (version_in o)) is) ∙ live)

alone : (x y : BridgePort) (i : ℕ) → slice_get (x ∷ []) i ≡ Some y → x ≡ y
alone x y zero there = same_Some x y there
alone x y (suc i) there = absurd (let wrong : None ≡ Some y = there in cc)

only_by : (x : BridgePort) (p : ℕ) (a : Adjacency) (o : Option BridgePort) → port_in (x ∷ []) p ≡ o → option_map (λ y. y.adjacency) o ≡ Some a → x.adjacency ≡ a
only_by x p a None there is = absurd cc
only_by x p a (Some y) there is = ap (λ (z : BridgePort). z.adjacency) (alone x y (p - 1) (found (x ∷ []) p y there).1) ∙ same_Some y.adjacency a is

-- with one port
module _ (v : BridgeView) (port : BridgePort) (is : v.ports ≡ port ∷ []) (up : port.adjacency.state ≡ Up) (hold : port.adjacency.hold ≡ 3) (works : v.failed ≡ false)
    (fresh : v.spent ≡ false) where
  resting_idle : has_work (resting v) ≡ false
  unfolding has_work
  resting_idle = λ i. none_flagged v.database i || list_any (λ x. x.csnp_due) (map (with_csnp_due false) (is i))

  resting_kept : KeepsAll (resting v)
  unfolding adjacency_at
  resting_kept p a there on =
      let x : BridgePort = with_csnp_due false port in
      let same : port.adjacency ≡ a =
      only_by x p a (port_in (x ∷ []) p) refl (ap (λ (ports : List BridgePort). option_map (λ y. y.adjacency) (port_in (map (with_csnp_due false) ports) p)) (sym is) ∙ there) in
      (sym (ap (λ (b : Adjacency). b.state) same) ∙ up, sym (ap (λ (b : Adjacency). b.hold) same) ∙ hold)

  resting_is_calm : IsCalmFor 1 (resting v)
  resting_is_calm = record {
    works = works;
    fresh = fresh;
    flags = resting_idle;
    kept = resting_kept;
    life = record {
      held = λ id live. let left = lasts v.database id live in omega (arith, left);
      own = λ number below live. let left = lasts v.database (own_number v.id.system number) live in omega (arith, left);
    };
  }

-- ---- a bridge and its neighbour

abbrev me : SystemId
me = (small 1).id.system

abbrev other : SystemId
other = (small 2).id.system

-- the neighbour's port in a state in which it names the bridge
abbrev far_port : BridgePort
far_port = record { adjacency = keeping Initializing (me, 1) 3; csnp_due = false; metric = 10 }

abbrev far_up : BridgePort
far_up = record { adjacency = keeping Up (me, 1) 3; csnp_due = false; metric = 10 }

whole : IsWhole (small 1)
whole = small_whole 1 (omega arith)

other_whole : IsWhole (small 2)
other_whole = small_whole 2 (omega arith)

one_by : (ports : List BridgePort) (a : Adjacency) → length ports ≡ 1 → option_map (λ y. y.adjacency) (port_in ports 1) ≡ Some a → (port : BridgePort) × ((ports ≡ port ∷ []) × (port.adjacency ≡ a))
one_by [] a long there = absurd (omega (arith, long))
one_by (x ∷ []) a long there = (x, (refl, same_Some x.adjacency a there))
one_by (x ∷ y ∷ ports) a long there = absurd (omega (arith, long))

module _ (again : ControlAgain) where
  first_hello : parsed (hello_frame other 1 far_port) ≡ parsing.hello (hello_at other 1 far_port) (said 1 far_port.adjacency)
  first_hello = hello_heard again other 1 far_port refl other_whole.system.octets (omega arith) (refl, omega arith) whole.system.octets

  greeting_hello : parsed (hello_frame other 1 far_up) ≡ parsing.hello (hello_at other 1 far_up) (said 1 far_up.adjacency)
  greeting_hello = hello_heard again other 1 far_up refl other_whole.system.octets (omega arith) (refl, omega arith) whole.system.octets

  abbrev before : BridgeView
  before = with_first_carrier (small 1)

  abbrev met : BridgeView
  met = step (frame 1 (hello_frame other 1 far_port)) before

  met_sound : IsSoundView met
  met_sound = steps_stay_sound (frame 1 (hello_frame other 1 far_port)) before tt (steps_stay_sound (carrier 1 true) (configured (small 1)) tt (configured_is_sound (small 1) whole))

  met_fresh : met.spent ≡ false
  met_fresh =
      (steps_hold_few 2 (frame 1 (hello_frame other 1 far_port)) before (omega arith) (hello_at other 1 far_port, said 1 far_port.adjacency, first_hello)
      (steps_hold_few 1 (carrier 1 true) (configured (small 1)) (omega arith) tt (configured_holds_few (small 1) refl))).unspent

  met_works : met.failed ≡ false
  met_works =
      (steps_keep_bridge (frame 1 (hello_frame other 1 far_port)) before).failed
      ∙ ((steps_keep_bridge (carrier 1 true) (configured (small 1))).failed ∙ ap (λ (u : BridgeView). u.failed) (configured_is (small 1)))

  starts : Starts me (down true) before
  starts = with_carrier_starts (small 1) (omega arith)

  one_long : length met.ports ≡ 1
  one_long =
      (steps_keep_bridge (frame 1 (hello_frame other 1 far_port)) before).ports
      ∙ ((steps_keep_bridge (carrier 1 true) (configured (small 1))).ports ∙ ap length (configured_ports (small 1)))

  same_system : met.id.system ≡ me
  same_system = ap (λ (id : BridgeId). id.system) (steps_keep_bridge (frame 1 (hello_frame other 1 far_port)) before).id ∙ starts.id

  was_down : adjacency_at before 1 ≡ Some (down true)
  unfolding adjacency_at
  was_down = ap (λ (ports : List BridgePort). option_map (λ y. y.adjacency) (port_in ports 1)) starts.is ∙ ap (λ (a : Adjacency). Some a) starts.adjacency

  comes_up : adjacency_at met 1 ≡ Some (keeping Up (other, 1) 3)
  comes_up =
      let h : HelloValue = hello_at other 1 far_port in
      let way : ThreeWay = said 1 far_port.adjacency in
      hello_moves 1 (hello_frame other 1 far_port) h way first_hello before (down true) was_down refl
      ∙ (ap (λ (s : SystemId). Some (after_hello s 1 h way (down true))) starts.id ∙ ap (λ (a : Adjacency). Some a) (heard_down me h way Up refl refl refl))

  one_port : (port : BridgePort) × ((met.ports ≡ port ∷ []) × (port.adjacency ≡ keeping Up (other, 1) 3))
  unfolding adjacency_at
  one_port = one_by met.ports (keeping Up (other, 1) 3) one_long comes_up

  abbrev mail : Inbox
  mail = (1, hello_frame other 1 far_up) ∷ []

  names_me : neighbour_at (resting met) 1 ≡ Some (other, 1)
  unfolding neighbour_at
  names_me =
      ap (λ (ports : List BridgePort). option_and_then (λ port. neighbour_of port.adjacency) (port_in (map (with_csnp_due false) ports) 1)) one_port.1.0 ∙ ap neighbour_of one_port.1.1

  greeting : IsGreeting (resting met) 1 (hello_frame other 1 far_up)
  greeting = record {
    hello = hello_at other 1 far_up;
    way = said 1 far_up.adjacency;
    parses = greeting_hello;
    holding = refl;
    neighbour = names_me;
    keeps = ap (λ (s : SystemId). keeps_up s 1 (hello_at other 1 far_up) (said 1 far_up.adjacency)) same_system;
  }

  has_carrier : has_carrier_at (resting met) 1 ≡ true
  unfolding has_carrier_at
  has_carrier = ap (λ (ports : List BridgePort). has_carrier_in (port_in (map (with_csnp_due false) ports) 1)) one_port.1.0 ∙ ap (λ (a : Adjacency). a.carrier) one_port.1.1

  elsewhere : (p : ℕ) → has_carrier_at (resting met) p ≡ false → frames_at p mail ≡ []
  elsewhere p none =
      elim (cases_eq 1 p) [
        | inl here ↦ absurd (true≢false (sym has_carrier ∙ (ap (has_carrier_at (resting met)) here ∙ none)))
        | inr apart ↦ ap (λ b. if b then hello_frame other 1 far_up ∷ [] else []) (ne_eqb 1 p apart)
      ]

  only_first : (p : ℕ) → IsPort (resting met) p → 1 ≡ p
  only_first p is = omega (arith, is.low, is.high, length-map met.ports (with_csnp_due false), one_long)

  greeted : IsGreeted (resting met) mail
  greeted = record {
    carrier = λ p is on.
        subst (λ (q : ℕ). (bytes : List ℕ) × (frames_at q mail ≡ bytes ∷ []) × IsGreeting (resting met) q bytes) (only_first p is) (hello_frame other 1 far_up, refl, greeting);
    others = elsewhere;
  }

  up_first : is_up_at (resting met) 1 ≡ true
  unfolding is_up_at
  up_first = ap (λ (ports : List BridgePort). is_up_in (port_in (map (with_csnp_due false) ports) 1)) one_port.1.0 ∙ ap (λ (a : Adjacency). is_up a.state) one_port.1.1

pub some_bridge_is_calm : ControlAgain → SomeBridgeIsCalm
some_bridge_is_calm again =
    let one = one_port again in
    record {
      view = resting (met again);
      inbox = mail again;
      sound = resting_sound (met again) (met_sound again);
      calm = resting_is_calm (met again) one.0 one.1.0 (ap (λ (a : Adjacency). a.state) one.1.1) (ap (λ (a : Adjacency). a.hold) one.1.1) (met_works again) (met_fresh again);
      greeted = greeted again;
      up = up_first again;
    }
