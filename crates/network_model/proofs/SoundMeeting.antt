-- Two bridges of one port each that hear each other: the port of one comes up, and it sends a hello and its own LSP.
use Rattle.std.proofs.Common.{◌≡◌, ◌*◌, inl, inr, ◌≤◌, ◌<◌, ◌+◌, ℕ, suc, Bool, true, false, true≢false, List, [], ◌∷◌, ◌++◌, map, length, refl, sym, ap, ◌∙◌, subst, Option, Some, None, arith}
use Rattle.std.specs.Prelude.{if◌then◌else◌}
use Rattle.std.specs.Option.{option_and_then}
use Rattle.std.specs.FinMap.{get}
use Rattle.spb_types.specs.declared.address.BridgeId.{BridgeId}
use Rattle.spb_types.specs.declared.address.SystemId.{SystemId}
use Rattle.spb_types.specs.declared.address.LspId.{LspId}
use Rattle.spb_types.specs.declared.ports.PortSet.{PortSet}
use Rattle.spb_types.specs.Ports.{has}
use Rattle.isis_pdu.specs.Grammar.{IsBytes}
use Rattle.isis_pdu.specs.Pdu.{LspValue}
use Rattle.spb_tlvs.specs.RoundTrip.{IsNamed}
use Rattle.itag_frames.proofs.ControlLaws.{control_again}
use Rattle.lsdb.specs.declared.version.Version.{Version}
use Rattle.lsdb.specs.declared.version.Version.TheVariants.{Absent, Live, Dead}
use Rattle.lsdb.specs.Version.{number_of, sum_of, is_absent}
use Rattle.lsdb.specs.Entry.{Entry}
use Rattle.lsdb.specs.Database.{version_at, srm_in}
use Rattle.lsdb.specs.Certificate.{Claim, is_flagged, is_absent as is_none, is_as_before, is_claimed}
use Rattle.flooding.specs.Own.{own_numbers, own_id}
use Rattle.flooding.specs.Hearing.{claim_of}
use Rattle.flooding.specs.Entries.{IsSendable}
use Rattle.flooding.proofs.SendableEntries.{sent_is_held}
use Rattle.flooding.specs.Sending.{lsp_in}
use Rattle.adjacency.specs.declared.state.AdjState.TheVariants.{Initializing, Up}
use Rattle.adjacency.specs.declared.port.Adjacency.{Adjacency}
use Rattle.adjacency.specs.Adjacency.{down, keeping, is_up, neighbour_of, after_second, said}
use Rattle.bridge_api.specs.declared.port.BridgePort.{BridgePort}
use Rattle.bridge_api.specs.View.{BridgeView, port_in, neighbour_at, is_port_up, is_up_in, is_up_at, has_carrier_in, has_carrier_at}
use Rattle.bridge_api.specs.Own.{own_entry, Lasts, IsAlive}
use Rattle.bridge_api.specs.Parsing.{parsed}
use Rattle.bridge_api.specs.Parsing as parsing
use Rattle.bridge_api.specs.Hearing.{with_csnp_due}
use Rattle.bridge_api.specs.Ticking.{later, readied, hello_frame, lsp_frame, sent_from, sent_in_tick}
use Rattle.bridge_api.specs.Step.{second, frame, step, sent}
use Rattle.bridge_api.specs.Laws.{IsSoundView, IsSent, IsHelloHeard, IsFresh, first_of, hearing_from}
use Rattle.bridge_api.specs.Duties.{but_for_ssn}
use Rattle.bridge_laws.specs.Few.{HoldsFew}
use Rattle.bridge_api.proofs.Octets.{AreSmall, small_bytes}
use Rattle.bridge_api.proofs.Changes.{readied_ports, readied_rest, tick_ports}
use Rattle.flooding.specs.Settling.{IsLspCurrent}
use Rattle.flooding.proofs.OwnNumbers.{some_number, few_numbers}
use Rattle.bridge_api.proofs.Bodies.{first_body}
use Rattle.bridge_api.proofs.DataSteps.{readied_holds}
use Rattle.bridge_api.proofs.Meeting.{Starts, heard_down, hello_from, hears}
use Rattle.bridge_laws.proofs.Entering.{entering_up_is_whole}
use Rattle.bridge_api.proofs.Serving.{seconds_serve, seconds_leave_nothing_due}
use Rattle.bridge_laws.proofs.FewHeld.{steps_hold_few}
use Rattle.bridge_laws.proofs.FewSent.{seconds_send_own}
use Rattle.network_model.proofs.CountedSent.{hello_sends_none}
use Rattle.network_model.proofs.BridgeLaws.{steps_stay_sound, steps_keep_bridge, hellos_are_heard, lsps_are_heard, up_ports_are_up, steps_carry_database}

-- ---- a bridge, seen at its first port

readied_starts : (s : SystemId) (a : Adjacency) (v : BridgeView) → Starts s a v → Starts s (after_second a) (readied v)
readied_starts s a v from = record {
  port = later from.port;
  rest = map later from.rest;
  id = ap (λ (u : BridgeView). u.id.system) (readied_rest v) ∙ from.id;
  is = readied_ports v ∙ ap (map later) from.is;
  adjacency = ap after_second from.adjacency;
}

second_starts : (s : SystemId) (a : Adjacency) (v : BridgeView) → Starts s a v → Starts s (after_second a) (step second v)
second_starts s a v from = record {
  port = with_csnp_due false (later from.port);
  rest = map (with_csnp_due false) (map later from.rest);
  id = ap (λ (id : BridgeId). id.system) (steps_keep_bridge second v).id ∙ from.id;
  is = tick_ports v ∙ ap (λ (ports : List BridgePort). map (with_csnp_due false) (map later ports)) from.is;
  adjacency = ap after_second from.adjacency;
}

neighbour_is : (s : SystemId) (a : Adjacency) (v : BridgeView) → Starts s a v → neighbour_at v 1 ≡ neighbour_of a
unfolding neighbour_at
neighbour_is s a v from = ap (λ (ports : List BridgePort). option_and_then (λ port. neighbour_of port.adjacency) (port_in ports 1)) from.is ∙ ap neighbour_of from.adjacency

carrier_is : (s : SystemId) (a : Adjacency) (v : BridgeView) → Starts s a v → has_carrier_at v 1 ≡ a.carrier
unfolding has_carrier_at
carrier_is s a v from = ap (λ (ports : List BridgePort). has_carrier_in (port_in ports 1)) from.is ∙ ap (λ (x : Adjacency). x.carrier) from.adjacency

up_is : (s : SystemId) (a : Adjacency) (v : BridgeView) → Starts s a v → is_up_at v 1 ≡ is_up a.state
unfolding is_up_at
up_is s a v from = ap (λ (ports : List BridgePort). is_up_in (port_in ports 1)) from.is ∙ ap (λ (x : Adjacency). is_up x.state) from.adjacency

-- it has one port
none_more : (rest : List BridgePort) → suc (length rest) ≡ 1 → rest ≡ []
none_more [] one = refl
none_more (x ∷ rest) one = absurd (omega (arith, one))

only_port : (s : SystemId) (a : Adjacency) (v : BridgeView) (from : Starts s a v) → length v.ports ≡ 1 → v.ports ≡ from.port ∷ []
only_port s a v from one = from.is ∙ ap (λ (rest : List BridgePort). from.port ∷ rest) (none_more from.rest (sym (ap length from.is) ∙ one))

-- ---- a port that isn't Up: a hello is sent there, and nothing else

only_hello : (carriers up : Bool) (s : ℕ × List ℕ) (more : List (ℕ × List ℕ)) → carriers ≡ true → up ≡ false → ((if carriers then s ∷ [] else []) ++ (if up then more else [])) ++ [] ≡ s ∷ []
only_hello true false s more is none = refl
only_hello true true s more is none = absurd (true≢false none)
only_hello false up s more is none = absurd (true≢false (sym is))

hello_alone : (v : BridgeView) (port : BridgePort) → v.ports ≡ port ∷ [] → (later port).adjacency.carrier ≡ true → is_port_up (later port) ≡ false → sent second v ≡ (1, first_of (sent second v)) ∷ []
unfolding sent_in_tick
hello_alone v port is carriers down =
    let u : BridgeView = readied v in
    let bytes : List ℕ = hello_frame u.id.system 1 (later port) in
    let e : sent second v ≡ (1, bytes) ∷ [] =
    ap (λ (ports : List BridgePort). sent_from u.id.system 1 ports u.database) (readied_ports v ∙ ap (map later) is)
    ∙ only_hello (later port).adjacency.carrier (is_port_up (later port)) (1, bytes) _ carriers down in
    e ∙ ap (λ (s : List ℕ). (1, s) ∷ []) (sym (ap first_of e))

says_hello : (s : SystemId) (a : Adjacency) (v : BridgeView) → Starts s a v → length v.ports ≡ 1 → (after_second a).carrier ≡ true → is_up (after_second a).state ≡ false → sent second v ≡ (1, first_of (sent second v)) ∷ []
says_hello s a v from one carriers down =
    hello_alone v from.port (only_port s a v from one) (ap (λ (x : Adjacency). (after_second x).carrier) from.adjacency ∙ carriers) (ap (λ (x : Adjacency). is_up (after_second x).state) from.adjacency ∙ down)

-- and that is heard
hello_from_at : (s : SystemId) (a : Adjacency) (v : BridgeView) → IsSoundView v → Starts s a v → a.carrier ≡ true → IsNamed (neighbour_of (after_second a)) → IsHelloHeard v 1
hello_from_at s a v sound from carriers named =
    let kept : neighbour_at (step second v) 1 ≡ neighbour_of (after_second a) = neighbour_is s (after_second a) (step second v) (second_starts s a v from) in
    hellos_are_heard v 1 sound (carrier_is s a v from ∙ carriers) (subst IsNamed (sym kept) named)

only_sent : (fs : List (ℕ × List ℕ)) (bytes other : List ℕ) → fs ≡ (1, bytes) ∷ [] → IsSent fs 1 other → other ≡ bytes
only_sent fs bytes other is some = elim (subst (λ (s : List (ℕ × List ℕ)). IsSent s 1 other) is some) [
  | inl first ↦ sym first.1
  | inr none ↦ absurd none
]

-- ---- the conversation

abbrev pub system : ℕ → SystemId
system n = record { mac = record { bytes = 2 ∷ 0 ∷ 0 ∷ 0 ∷ 0 ∷ n ∷ [] } }

address_small : (n : ℕ) → n < 256 → AreSmall (system n).mac.bytes
address_small n low = (omega arith, (omega arith, (omega arith, (omega arith, (omega arith, (low, tt))))))

octets : (n : ℕ) → n < 256 → IsBytes (system n).mac.bytes
octets n low = small_bytes (system n).mac.bytes (address_small n low)

-- two bridges, of one port each with carrier, that were heard by nobody yet
pub record HaveFirstCarriers (v w : BridgeView) : Type 0 where
  pub first : Starts (system 1) (down true) v
  pub other : Starts (system 2) (down true) w
  pub sound : IsSoundView v
  pub other_sound : IsSoundView w
  pub one : length v.ports ≡ 1
  pub other_one : length w.ports ≡ 1
  pub few : HoldsFew 3 v

-- ---- what is held, but for its SSN flags

srm_but : (o : Option Entry) → srm_in (but_for_ssn o) ≡ srm_in o
srm_but None = refl
srm_but (Some e) = refl

alive_but : (o : Option Entry) → IsAlive o → IsAlive (but_for_ssn o)
alive_but None alive = alive
alive_but (Some e) alive = alive

some_absent : (a : Version) → is_absent a ≡ false → a ≡ Absent → ⊥
some_absent a some none = true≢false (sym (ap is_absent none) ∙ some)

-- a frame that is sent at port 1 and heard as a live LSP
pub record SaysLsp (v : BridgeView) : Type 0 where
  pub bytes : List ℕ
  pub sent : IsSent (sent second v) 1 bytes
  pub lsp : LspValue
  pub heard : parsed bytes ≡ parsing.lsp lsp
  pub number : ℕ
  pub sum : ℕ
  pub live : (claim_of lsp).version ≡ Live number sum

module _ (v w : BridgeView) (carriers : HaveFirstCarriers v w) where
  -- the first says a hello, and the other hears it
  abbrev pub asked : BridgeView
  asked = step second v

  abbrev pub asking : BridgeView
  asking = hearing_from v w

  -- the other says a hello, and the first hears it
  abbrev pub met : BridgeView
  met = hearing_from asking asked

  pub says_first : sent second v ≡ (1, first_of (sent second v)) ∷ []
  says_first = says_hello (system 1) (down true) v carriers.first carriers.one refl refl

  asked_starts : Starts (system 1) (down true) asked
  asked_starts = second_starts (system 1) (down true) v carriers.first

  asking_starts : Starts (system 2) (keeping Initializing (system 1, 1) 3) asking
  asking_starts =
      subst (λ (a : Adjacency). Starts (system 2) a asking) (heard_down (system 2) (hello_from (system 1) (down true)) (said 1 (down true)) Initializing refl refl refl)
      (hears control_again (system 2) (system 1) (down true) (down true) w v carriers.other carriers.first refl refl refl (octets 1 (omega arith)) tt tt)

  asking_one : length asking.ports ≡ 1
  asking_one = (steps_keep_bridge (frame 1 (first_of (sent second v))) w).ports ∙ carriers.other_one

  pub says_second : sent second asking ≡ (1, first_of (sent second asking)) ∷ []
  says_second = says_hello (system 2) (keeping Initializing (system 1, 1) 3) asking asking_starts asking_one refl refl

  met_starts : Starts (system 1) (keeping Up (system 2, 1) 3) met
  met_starts =
      let waits : Adjacency = keeping Initializing (system 1, 1) 2 in
      subst (λ (a : Adjacency). Starts (system 1) a met) (heard_down (system 1) (hello_from (system 2) waits) (said 1 waits) Up refl refl refl)
      (hears control_again (system 1) (system 2) (down true) (keeping Initializing (system 1, 1) 3) asked asking asked_starts asking_starts refl refl refl (octets 2 (omega arith)) (refl, omega arith) (octets 1 (omega arith)))

  asked_sound : IsSoundView asked
  asked_sound = steps_stay_sound second v tt carriers.sound

  asking_sound : IsSoundView asking
  asking_sound = steps_stay_sound (frame 1 (first_of (sent second v))) w tt carriers.other_sound

  met_sound : IsSoundView met
  met_sound = steps_stay_sound (frame 1 (first_of (sent second asking))) asked tt asked_sound

  met_one : length met.ports ≡ 1
  met_one = (steps_keep_bridge (frame 1 (first_of (sent second asking))) asked).ports ∙ ((steps_keep_bridge second v).ports ∙ carriers.one)

  met_few : HoldsFew 5 met
  met_few =
      let said_so : IsHelloHeard asking 1 = hello_from_at (system 2) (keeping Initializing (system 1, 1) 3) asking asking_sound asking_starts refl (refl, omega arith) in
      let bytes : List ℕ = first_of (sent second asking) in
      let heard : parsed bytes ≡ parsing.hello said_so.hello said_so.way = ap parsed (sym (only_sent (sent second asking) bytes said_so.bytes says_second said_so.sent)) ∙ said_so.heard in
      steps_hold_few 4 (frame 1 bytes) asked (omega arith) (said_so.hello, said_so.way, heard) (steps_hold_few 3 second v (omega arith) tt carriers.few)

  -- neither of these first frames makes anybody send anything: each is heard as a hello
  pub first_quiet : (u : BridgeView) → sent (frame 1 (first_of (sent second v))) u ≡ []
  first_quiet u =
      let bytes : List ℕ = first_of (sent second v) in
      let said_so : IsHelloHeard v 1 = hello_from_at (system 1) (down true) v carriers.sound carriers.first refl tt in
      let heard : parsed bytes ≡ parsing.hello said_so.hello said_so.way = ap parsed (sym (only_sent (sent second v) bytes said_so.bytes says_first said_so.sent)) ∙ said_so.heard in
      hello_sends_none 1 bytes u said_so.hello said_so.way heard

  pub second_quiet : (u : BridgeView) → sent (frame 1 (first_of (sent second asking))) u ≡ []
  second_quiet u =
      let bytes : List ℕ = first_of (sent second asking) in
      let said_so : IsHelloHeard asking 1 = hello_from_at (system 2) (keeping Initializing (system 1, 1) 3) asking asking_sound asking_starts refl (refl, omega arith) in
      let heard : parsed bytes ≡ parsing.hello said_so.hello said_so.way = ap parsed (sym (only_sent (sent second asking) bytes said_so.bytes says_second said_so.sent)) ∙ said_so.heard in
      hello_sends_none 1 bytes u said_so.hello said_so.way heard

  -- the port is Up, also after the next second
  pub met_up : is_up_at (step second met) 1 ≡ true
  met_up = up_is (system 1) (keeping Up (system 2, 1) 2) (step second met) (second_starts (system 1) (keeping Up (system 2, 1) 3) met met_starts)

  -- in that second few frames are sent, and one is a hello
  pub few_sent : length (sent second met) ≤ 1024
  few_sent =
      let few : length (sent second met) ≤ (3 * own_numbers + 2) * 1 = subst (λ (n : ℕ). length (sent second met) ≤ (3 * own_numbers + 2) * n) met_one (seconds_send_own 5 met (omega arith) met_few) in
      omega (arith, few, few_numbers)

  pub hello_sent : IsHelloHeard met 1
  hello_sent = hello_from_at (system 1) (keeping Up (system 2, 1) 3) met met_sound met_starts refl (refl, omega arith)

  -- ---- its own LSP

  abbrev after : BridgeView
  after = step second met

  abbrev id : LspId
  id = own_id (system 1)

  after_starts : Starts (system 1) (keeping Up (system 2, 1) 2) after
  after_starts = second_starts (system 1) (keeping Up (system 2, 1) 3) met met_starts

  after_sound : IsSoundView after
  after_sound = steps_stay_sound second met tt met_sound

  met_holds : is_absent (version_at met.database id) ≡ false
  met_holds = subst (λ (s : SystemId). is_absent (version_at met.database (own_id s)) ≡ false) met_starts.id met_sound.database.own

  after_holds : is_absent (version_at after.database id) ≡ false
  after_holds = subst (λ (s : SystemId). is_absent (version_at after.database (own_id s)) ≡ false) after_starts.id after_sound.database.own

  -- the port has just come up, so the own LSP is to be sent there
  fresh : IsFresh met 1
  fresh =
      elim (entering_up_is_whole (frame 1 (first_of (sent second asking))) asked 1 asked_sound (up_is (system 1) (keeping Up (system 2, 1) 3) met met_starts)) [
        | inl was ↦ absurd (true≢false (sym was.0 ∙ up_is (system 1) (down true) asked asked_starts))
        | inr new ↦ new
      ]

  flagged : has (srm_in (get met.database id)) 1 ≡ true
  flagged =
      elim (fresh.flagged id) [
        | inl on ↦ on
        | inr none ↦ absurd (some_absent (version_at met.database id) met_holds none)
      ]

  still_flagged : has (srm_in (get after.database id)) 1 ≡ true
  still_flagged =
      elim ((steps_carry_database second met met_sound).kept id 1 (up_ports_are_up after 1 after_sound ∙ met_up)) [
        | is_flagged on ↦ on
        | is_none none ↦ absurd (some_absent (version_at after.database id) after_holds none)
        | is_as_before was_up off same ↦ absurd (true≢false (sym flagged ∙ off))
        | is_claimed here a claimed below ↦ absurd (omega (arith, here))
      ]

  originates : but_for_ssn (get after.database id) ≡ but_for_ssn (get (readied met).database id)
  originates = (seconds_leave_nothing_due met met_sound).held id

  ready_flagged : has (srm_in (get (readied met).database id)) 1 ≡ true
  ready_flagged = ap (λ (set : PortSet). has set 1) (sym (srm_but (get (readied met).database id)) ∙ (ap srm_in (sym originates) ∙ srm_but (get after.database id))) ∙ still_flagged

  -- it is alive
  unspent : after.spent ≡ false
  unspent = (steps_hold_few 5 second met (omega arith) tt met_few).unspent

  alive : IsAlive (own_entry after 0)
  alive = (subst (λ (b : Option (List ℕ)). IsLspCurrent b (own_entry after 0)) (first_body after) (after_sound.own.current unspent 0 (omega (arith, some_number)))).1

  ready_alive : IsAlive (but_for_ssn (get (readied met).database id))
  ready_alive = subst IsAlive originates (alive_but (get after.database id) (subst (λ (s : SystemId). IsAlive (get after.database (own_id s))) after_starts.id alive))

  -- so it is sent, and heard as a live LSP
  own_sent : (o : Option Entry) → get (readied met).database id ≡ o → has (srm_in o) 1 ≡ true → IsAlive (but_for_ssn o) → SaysLsp met
  own_sent None held on lasts = absurd lasts
  own_sent (Some e) held on lasts =
      let u : BridgeView = readied met in
      let from : Starts (system 1) (keeping Up (system 2, 1) 2) u = readied_starts (system 1) (keeping Up (system 2, 1) 3) met met_starts in
      let sendable : IsSendable id e = (readied_holds met met_sound).sendable id e held in
      let l : LspValue = lsp_in id e in
      let served = seconds_serve met 1 met_sound (up_is (system 1) (keeping Up (system 2, 1) 2) u from) in
      record {
        bytes = lsp_frame u.id.system l;
        sent = served.lsps id e held on;
        lsp = l;
        heard = lsps_are_heard met id e met_sound held;
        number = number_of e.version;
        sum = sum_of e.version;
        live = ap (λ (c : Claim). c.version) (sent_is_held id e sendable) ∙ live_of e.version e.lifetime lasts;
      }
    where
      live_of : (a : Version) (lifetime : ℕ) → Lasts a lifetime → a ≡ Live (number_of a) (sum_of a)
      live_of Absent lifetime lasts = absurd lasts
      live_of (Live seq sum) lifetime lasts = refl
      live_of (Dead seq) lifetime lasts = absurd lasts

  pub lsp_sent : SaysLsp met
  lsp_sent = own_sent (get (readied met).database id) refl ready_flagged ready_alive
