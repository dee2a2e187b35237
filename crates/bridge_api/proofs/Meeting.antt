-- Two bridges that hear each other come up.
use Rattle.std.proofs.Common.{◌≡◌, ◌≢◌, ◌≤◌, ◌<◌, ℕ, Bool, true, false, List, [], ◌∷◌, ◌++◌, length, map, refl, sym, ap, ◌∙◌, subst, Some, arith}
use Rattle.std.specs.Prelude.{◌==◌, slice_get, slice_set, slice_index, if◌then◌else◌}
use Rattle.std.proofs.lemmas.Slice.Eq.{bytes_eq-Decides}
use Rattle.spb_types.specs.declared.address.SystemId.{SystemId}
use Rattle.spb_types.specs.Address.{same_system}
use Rattle.isis_pdu.specs.Pdu.{HelloValue}
use Rattle.isis_pdu.specs.Grammar.{IsBytes}
use Rattle.spb_tlvs.specs.declared.three_way.ThreeWay.{ThreeWay}
use Rattle.spb_tlvs.specs.RoundTrip.{IsNamed}
use Rattle.itag_frames.specs.Classify.{ControlAgain}
use Rattle.adjacency.specs.declared.state.AdjState.{AdjState}
use Rattle.adjacency.specs.declared.state.AdjState.TheVariants.{Down, Initializing, Up}
use Rattle.adjacency.specs.declared.port.Adjacency.{Adjacency}
use Rattle.adjacency.specs.States.{state_numbered, next_state}
use Rattle.adjacency.specs.Hearing.{is_discarded, sender, same_end}
use Rattle.adjacency.specs.Adjacency.{down, keeping, led_to, no_system, neighbour_of, is_up, after_second, after_hello_heard, after_hello, change_by_hello, said}
use Rattle.bridge_api.specs.declared.port.BridgePort.{BridgePort}
use Rattle.bridge_api.specs.declared.config.BridgeConfig.{BridgeConfig}
use Rattle.bridge_api.specs.View.{BridgeView, port_in, is_up_in, is_up_at}
use Rattle.bridge_api.specs.Config.{IsWhole, port_without_carrier, first_life, configured}
use Rattle.bridge_api.specs.Parsing.{Parsed, parsed}
use Rattle.bridge_api.specs.Parsing as parsing
use Rattle.bridge_api.specs.Hearing.{with_adjacency, heard_as, heard_hello, with_carrier_at}
use Rattle.bridge_api.specs.Ports.{heard_hello_port, with_carrier_port}
use Rattle.bridge_api.specs.Ticking.{later, readied, hello_tlvs, hello_at, hello_frame, synced_at, sent_from, after_sending_at, sent_in_tick}
use Rattle.bridge_api.specs.Step.{second, frame, carrier, sent, step}
use Rattle.bridge_api.specs.Laws.{IsSoundView, with_first_carrier, first_of, hearing_from, NeighboursComeUp, SomeBridge}
use Rattle.bridge_api.proofs.Octets.{small_bytes}
use Rattle.bridge_api.proofs.Changes.{when_false, heard_is, with_carrier_is, with_carrier_ports, with_carrier_rest, heard_hello_ports, heard_hello_rest, readied_ports, readied_rest, configured_is, configured_ports}
use Rattle.bridge_api.proofs.Certified.{noted_keeps}
use Rattle.bridge_api.proofs.Hellos.{AreOctets, hello_heard}
use Rattle.bridge_api.proofs.Configured.{first_life_long, first_life_low}
use Rattle.bridge_api.proofs.Sound.{configured_is_sound, steps_stay_sound}

-- ---- a hello at a port that is Down

either : {X : Type 0} (b : Bool) (x : X) → (if b then x else x) ≡ x
either true x = refl
either false x = refl

-- the adjacency that it leads to
led : (h : HelloValue) (way : ThreeWay) (s : AdjState) → (h.holding == 0) ≡ false → next_state Down (state_numbered way.state) ≡ s → after_hello_heard h way (down true) ≡ led_to s h way
led h way s held next =
    when_false (h.holding == 0) (down true) _ held
    ∙ (ap (λ (t : AdjState). led_to (next_state t (state_numbered way.state)) h way) (either (same_end (no_system, 0) (sender h way)) Down)
    ∙ ap (λ (t : AdjState). led_to t h way) next)

pub heard_down : (me : SystemId) (h : HelloValue) (way : ThreeWay) (s : AdjState) → is_discarded me 1 h way ≡ false → (h.holding == 0) ≡ false → next_state Down (state_numbered way.state) ≡ s → after_hello me 1 h way (down true) ≡ led_to s h way
heard_down me h way s heard held next = when_false (is_discarded me 1 h way) (down true) (after_hello_heard h way (down true)) heard ∙ led h way s held next

-- ---- a bridge, seen at its first port

pub record Starts (system : SystemId) (a : Adjacency) (v : BridgeView) : Type 0 where
  pub port : BridgePort
  pub rest : List BridgePort
  pub id : v.id.system ≡ system
  pub is : v.ports ≡ port ∷ rest
  pub adjacency : port.adjacency ≡ a

carrier_at : (c : BridgeConfig) (metrics : List ℕ) → (configured c).ports ≡ map port_without_carrier metrics → 1 ≤ length metrics → Starts c.id.system (down true) (with_first_carrier c)
carrier_at c [] ports some = absurd (omega arith)
carrier_at c (m ∷ ms) ports some =
    let v : BridgeView = configured c in
    let there : slice_get v.ports 0 ≡ Some (port_without_carrier m) = ap (λ (list : List BridgePort). slice_get list 0) ports in
    let made : with_first_carrier c ≡ with_carrier_at 1 true (Some (port_without_carrier m)) v = with_carrier_is v 1 true (port_without_carrier m) (omega arith) there in
    record {
      port = with_carrier_port true (port_without_carrier m);
      rest = map port_without_carrier ms;
      id = ap (λ (u : BridgeView). u.id.system) (made ∙ with_carrier_rest 1 true (port_without_carrier m) v) ∙ ap (λ (u : BridgeView). u.id.system) (configured_is c);
      is = ap (λ (u : BridgeView). u.ports) made ∙ (with_carrier_ports 1 true (port_without_carrier m) v there ∙ ap (λ (list : List BridgePort). slice_set list 0 (with_carrier_port true (port_without_carrier m))) ports);
      adjacency = refl;
    }

pub with_carrier_starts : (c : BridgeConfig) → 1 ≤ length c.metrics → Starts c.id.system (down true) (with_first_carrier c)
with_carrier_starts c some = carrier_at c c.metrics (configured_ports c) some

-- what it sends first is its hello at that port
first_is : (b : Bool) (s : ℕ × List ℕ) (xs ys : List (ℕ × List ℕ)) → b ≡ true → first_of ((if b then s ∷ [] else []) ++ xs ++ ys) ≡ s.1
first_is true s xs ys e = refl
first_is false s xs ys e = absurd cc

hello_from_first : (v : BridgeView) (ports : List BridgePort) (port : BridgePort) (rest : List BridgePort) → (readied v).ports ≡ ports → ports ≡ later port ∷ rest → (later port).adjacency.carrier ≡ true → first_of (sent second v) ≡ hello_frame (readied v).id.system 1 (later port)
unfolding sent_in_tick
hello_from_first v ports port rest is first with_first_carrier =
    let w : BridgeView = readied v in
    ap (λ (list : List BridgePort). first_of (sent_from w.id.system 1 list w.database)) (is ∙ first)
    ∙ first_is (later port).adjacency.carrier (1, hello_frame w.id.system 1 (later port)) (synced_at w.id.system 1 (later port) w.database) (sent_from w.id.system 2 rest (after_sending_at 1 (later port) w.database)) with_first_carrier

-- the hello of a system, by its adjacency
abbrev pub hello_from : SystemId → Adjacency → HelloValue
hello_from system a = record { circuit_type = 1; source = system; holding = 3; circuit = 1; tlvs = hello_tlvs (said 1 a) }

-- it hears what another sends first
pub hears : ControlAgain → (me other : SystemId) (a b : Adjacency) (v w : BridgeView) → Starts me a v → Starts other b w → a.carrier ≡ true → (after_second b).carrier ≡ true → length other.mac.bytes ≡ 6 → IsBytes other.mac.bytes → IsNamed (neighbour_of (after_second b)) → AreOctets (neighbour_of (after_second b)) → Starts me (after_hello me 1 (hello_from other (after_second b)) (said 1 (after_second b)) a) (hearing_from w v)
hears again me other a b v w sv sw carrier_v carrier_w six from named octets =
    let next : (later sw.port).adjacency ≡ after_second b = ap after_second sw.adjacency in
    let sender_is : (readied w).id.system ≡ other = ap (λ (u : BridgeView). u.id.system) (readied_rest w) ∙ sw.id in
    let port : BridgePort = later sw.port in
    let bytes : List ℕ = hello_frame other 1 port in
    let sends : first_of (sent second w) ≡ bytes =
    hello_from_first w (map later w.ports) sw.port (map later sw.rest) (readied_ports w) (ap (map later) sw.is) (ap (λ (x : Adjacency). x.carrier) next ∙ carrier_w) ∙ ap (λ (s : SystemId). hello_frame s 1 port) sender_is in
    let said_so : parsed bytes ≡ parsing.hello (hello_at other 1 port) (said 1 port.adjacency) =
    hello_heard again other 1 port six from (omega arith) (subst (λ (x : Adjacency). IsNamed (neighbour_of x)) (sym next) named) (subst (λ (x : Adjacency). AreOctets (neighbour_of x)) (sym next) octets) in
    let is_hello_from : parsed bytes ≡ parsing.hello (hello_from other (after_second b)) (said 1 (after_second b)) = said_so ∙ ap (λ (x : Adjacency). parsing.hello (hello_from other x) (said 1 x)) next in
    let h : HelloValue = hello_from other (after_second b) in
    let way : ThreeWay = said 1 (after_second b) in
    let there : slice_get v.ports 0 ≡ Some sv.port = ap (λ (list : List BridgePort). slice_get list 0) sv.is in
    let made : hearing_from w v ≡ heard_hello h way 1 sv.port v =
    ap (λ (s : List ℕ). step (frame 1 s) v) sends
    ∙ (heard_is v 1 bytes sv.port (omega arith) there (ap (λ (x : Adjacency). x.carrier) sv.adjacency ∙ carrier_v)
    ∙ ap (λ (j : Parsed). heard_as j 1 sv.port v) is_hello_from) in
    record {
      port = heard_hello_port v.id.system 1 h way sv.port;
      rest = sv.rest;
      id = ap (λ (u : BridgeView). u.id.system) (made ∙ heard_hello_rest h way 1 sv.port v) ∙ sv.id;
      is = ap (λ (u : BridgeView). u.ports) made ∙ (heard_hello_ports h way 1 sv.port v there ∙ ap (λ (list : List BridgePort). slice_set list 0 (heard_hello_port v.id.system 1 h way sv.port)) sv.is);
      adjacency =
          noted_keeps (change_by_hello v.id.system 1 h way sv.port.adjacency) (with_adjacency (after_hello v.id.system 1 h way sv.port.adjacency) sv.port)
          ∙ (λ i. after_hello (sv.id i) 1 h way (sv.adjacency i));
    }

pub up_first : (v : BridgeView) (system : SystemId) (a : Adjacency) → Starts system a v → is_up a.state ≡ true → is_up_at v 1 ≡ true
unfolding is_up_at
up_first v system a s up = ap (λ (list : List BridgePort). is_up_in (port_in list 1)) s.is ∙ (ap (λ (x : Adjacency). is_up x.state) s.adjacency ∙ up)

-- the neighbour hears the first hello, and then its own answer is heard
neighbours : ControlAgain → (c d : BridgeConfig) → IsWhole c → IsWhole d → 1 ≤ length c.metrics → 1 ≤ length d.metrics → same_system c.id.system d.id.system ≡ false → same_system d.id.system c.id.system ≡ false → same_system c.id.system c.id.system ≡ true → is_up_at (hearing_from (hearing_from (with_first_carrier c) (with_first_carrier d)) (with_first_carrier c)) 1 ≡ true
neighbours again c d whole_c whole_d some_c some_d apart apart' same =
    let me : SystemId = c.id.system in
    let other : SystemId = d.id.system in
    let asks : Starts me (down true) (with_first_carrier c) = with_carrier_starts c some_c in
    let asked : after_hello other 1 (hello_from me (down true)) (said 1 (down true)) (down true) ≡ keeping Initializing (me, 1) 3 =
    heard_down other (hello_from me (down true)) (said 1 (down true)) Initializing (rw apart refl) refl refl in
    let answers : Starts other (keeping Initializing (me, 1) 3) (hearing_from (with_first_carrier c) (with_first_carrier d)) =
    subst (λ (a : Adjacency). Starts other a (hearing_from (with_first_carrier c) (with_first_carrier d))) asked
    (hears again other me (down true) (down true) (with_first_carrier d) (with_first_carrier c) (with_carrier_starts d some_d) asks refl refl whole_c.system.bytes whole_c.system.octets tt tt) in
    let waits : Adjacency = keeping Initializing (me, 1) 2 in
    let answered : after_hello me 1 (hello_from other waits) (said 1 waits) (down true) ≡ keeping Up (other, 1) 3 =
    heard_down me (hello_from other waits) (said 1 waits) Up (rw (apart', same) refl) refl refl in
    up_first (hearing_from (hearing_from (with_first_carrier c) (with_first_carrier d)) (with_first_carrier c)) me (keeping Up (other, 1) 3)
    (subst (λ (a : Adjacency). Starts me a (hearing_from (hearing_from (with_first_carrier c) (with_first_carrier d)) (with_first_carrier c))) answered
    (hears again me other (down true) (keeping Initializing (me, 1) 3) (with_first_carrier c) (hearing_from (with_first_carrier c) (with_first_carrier d)) asks answers refl refl whole_d.system.bytes whole_d.system.octets (whole_c.system.bytes, omega arith) whole_c.system.octets))
    refl

not_true : (b : Bool) → (b ≡ true → ⊥) → b ≡ false
not_true true never = absurd (never refl)
not_true false never = refl

other_system : (x y : SystemId) → x ≢ y → same_system x y ≡ false
other_system x y apart =
    not_true (same_system x y) (λ same. let bytes : x.mac.bytes ≡ y.mac.bytes = (bytes_eq-Decides x.mac.bytes y.mac.bytes).0 same in apart (λ i. record { mac = record { bytes = bytes i } }))

pub neighbours_come_up : ControlAgain → NeighboursComeUp
neighbours_come_up again c d whole_c whole_d ports_c ports_d apart =
    neighbours again c d whole_c whole_d (omega (arith, whole_c.metrics)) (omega (arith, whole_d.metrics)) (other_system c.id.system d.id.system apart) (other_system d.id.system c.id.system (λ e. apart (sym e))) ((bytes_eq-Decides c.id.system.mac.bytes c.id.system.mac.bytes).1 refl)

-- ---- two bridges

-- a bridge of one port, with this last byte of its address
abbrev pub small : ℕ → BridgeConfig
small n = record {
  id = record { priority = 32768; system = record { mac = record { bytes = 2 ∷ 0 ∷ 0 ∷ 0 ∷ 0 ∷ n ∷ [] } } };
  source = record { value = n };
  ports = 1;
  vids = [];
  metrics = 10 ∷ [];
  attached = [];
  last = first_life;
}

pub small_whole : (n : ℕ) → n < 256 → IsWhole (small n)
small_whole n low = record {
  ports = omega arith;
  metrics = refl;
  each_metric = (record { low = omega arith; high = omega arith }, tt);
  few_vids = omega arith;
  each_vid = tt;
  vids_apart = tt;
  priority = omega arith;
  system = record {
    bytes = refl;
    octets = small_bytes (2 ∷ 0 ∷ 0 ∷ 0 ∷ 0 ∷ n ∷ []) (omega arith, (omega arith, (omega arith, (omega arith, (omega arith, (low, tt))))));
    individual = refl;
    some = refl;
  };
  source = omega (arith, low);
  each_attachment = tt;
  attachments_apart = tt;
  few_isids = omega arith;
  last = first_life_long;
  each_last = first_life_low;
}

pub some_bridge : ControlAgain → SomeBridge
some_bridge again =
    let whole : IsWhole (small 1) = small_whole 1 (omega arith) in
    let other_whole : IsWhole (small 2) = small_whole 2 (omega arith) in
    let with_carrier_sound : IsSoundView (with_first_carrier (small 1)) = steps_stay_sound (carrier 1 true) (configured (small 1)) tt (configured_is_sound (small 1) whole) in
    record {
      config = small 1;
      other = small 2;
      whole = whole;
      other_whole = other_whole;
      sound = steps_stay_sound (frame 1 _) (with_first_carrier (small 1)) tt with_carrier_sound;
      up = neighbours_come_up again (small 1) (small 2) whole other_whole (omega arith) (omega arith) (λ e. let last : 1 ≡ 2 = ap (λ (s : SystemId). slice_index s.mac.bytes 5) e in absurd (omega arith));
    }
