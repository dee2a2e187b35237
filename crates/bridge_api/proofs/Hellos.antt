-- The hellos that are sent are heard as such.
use Rattle.std.proofs.Common.{◌≡◌, ◌⊎◌, inl, inr, ◌≤◌, ◌<◌, ◌+◌, ◌-◌, ℕ, zero, suc, Bool, true, false, List, [], ◌∷◌, ◌++◌, length, map, refl, sym, ap, ◌∙◌, subst, Option, Some, None, Ok, arith, length-append}
use Rattle.std.specs.Prelude.{⊤, slice_get, nat_le, IsTrue, if◌then◌else◌}
use Rattle.std.specs.Int.{w16, to_be_bytes}
use Rattle.std.specs.Option.{option_map, option_and_then}
use Rattle.std.proofs.lemmas.List.{append-nil, append_assoc}
use Rattle.std.proofs.lemmas.Option.{slice_get-map, slice_get_within}
use Rattle.std.proofs.lemmas.Bool.{le-leb}
use Rattle.spb_types.specs.declared.address.Mac.{Mac}
use Rattle.spb_types.specs.declared.address.SystemId.{SystemId}
use Rattle.spb_types.specs.declared.address.BridgeId.{BridgeId}
use Rattle.isis_pdu.specs.Pdu.{HelloValue, CsnpValue, hello}
use Rattle.isis_pdu.specs.Tlvs.{is_whole, is_whole_after}
use Rattle.isis_pdu.specs.Bytes.{u16_bytes}
use Rattle.isis_pdu.specs.Spelling.{hello_bytes}
use Rattle.isis_pdu.specs.Grammar.{IsPdu, IsBytes}
use Rattle.isis_pdu.proofs.FormatLaws.{written_again, whole_one}
use Rattle.spb_tlvs.specs.declared.three_way.ThreeWay.{ThreeWay}
use Rattle.spb_tlvs.specs.Number.{four}
use Rattle.spb_tlvs.specs.Piece.{pieces, pieces_within}
use Rattle.spb_tlvs.specs.Tlv.{tlv, values_with}
use Rattle.spb_tlvs.specs.ThreeWay.{three_way_value, neighbour_bytes, three_way_of}
use Rattle.spb_tlvs.specs.RoundTrip.{IsNamed}
use Rattle.spb_tlvs.proofs.ThreeWayLaws.{three_way_again}
use Rattle.spb_tlvs.proofs.TlvLaws.{tlv_here, tlv_elsewhere}
use Rattle.itag_frames.specs.Frame.{control_bytes, llc}
use Rattle.itag_frames.specs.Classify.{content_in, ControlAgain}
use Rattle.itag_frames.specs.Frame as frames
use Rattle.lsdb.specs.Database.{Lsps}
use Rattle.flooding.specs.Sending.{lsps_to_send}
use Rattle.snp_sync.specs.Sending.{csnps_of, psnps_of}
use Rattle.adjacency.specs.declared.state.AdjState.{AdjState}
use Rattle.adjacency.specs.declared.state.AdjState.TheVariants.{Down, Initializing, Up}
use Rattle.adjacency.specs.States.{state_number}
use Rattle.adjacency.specs.Hearing.{End}
use Rattle.adjacency.specs.declared.port.Adjacency.{Adjacency}
use Rattle.adjacency.specs.Adjacency.{SoundIn, is_up, kept_in, neighbour_of, said}
use Rattle.bridge_api.specs.declared.port.BridgePort.{BridgePort}
use Rattle.bridge_api.specs.View.{BridgeView, port_at, neighbour_at, is_port_up, has_carrier_in, has_carrier_at}
use Rattle.bridge_api.specs.Parsing.{parsed, is_octets, by_content, by_pdu, by_three_way, by_reading}
use Rattle.bridge_api.specs.Parsing as parsing
use Rattle.spb_types.specs.declared.drop_reason.DropReason.TheVariants as drop
use Rattle.bridge_api.specs.Ticking.{later, readied, hello_tlvs, hello_at, hello_frame, lsp_frame, csnp_frame, psnp_frame, hellos_at, summaries_at, lsps_at, requests_at, synced_at, sent_at, after_sending_at, sent_from, sent_in_tick, after_tick}
use Rattle.bridge_api.specs.Laws.{IsSoundPort, IsSent, IsHelloOf, HellosAreHeard, SentWithCarrier}
use Rattle.bridge_api.proofs.Changes.{found, readied_ports, readied_rest, ticked, tick_port, when_true}
use Rattle.bridge_api.proofs.Carriers.{later_carrier}
use Rattle.spb_content.proofs.Octets.{four_small}
use Rattle.bridge_api.proofs.Octets.{AreSmall, octets_small, bytes_small, small_both}
use Rattle.bridge_api.proofs.SoundPorts.{later_sound, all_later, all_at, sound_at}

-- ---- the TLVs of a hello

pub tlvs_whole : (way : ThreeWay) → IsTrue (is_whole (hello_tlvs way))
unfolding is_whole_after
tlvs_whole way = whole_one 240 (three_way_value way)

named_short : (n : Option End) → IsNamed n → length (neighbour_bytes n) ≤ 10
named_short None named = omega arith
named_short (Some n) named = rw length-append (omega (arith, named.0))

pub tlvs_short : (way : ThreeWay) → IsNamed way.neighbour → length (hello_tlvs way) ≤ 26
tlvs_short way named = omega (arith, named_short way.neighbour named)

none_left : values_with 240 [] ≡ []
unfolding pieces pieces_within
none_left = refl

way_found : (way : ThreeWay) → values_with 240 (hello_tlvs way) ≡ three_way_value way ∷ []
way_found way =
    ap (values_with 240) (append_assoc (tlv 1 (0x03 ∷ 0x49 ∷ 0x00 ∷ 0x01 ∷ [])) (tlv 129 (0xc1 ∷ [])) (tlv 240 (three_way_value way)))
    ∙ (tlv_elsewhere 1 240 (0x03 ∷ 0x49 ∷ 0x00 ∷ 0x01 ∷ []) (tlv 129 (0xc1 ∷ []) ++ tlv 240 (three_way_value way)) (λ e. absurd (omega arith))
    ∙ (tlv_elsewhere 129 240 (0xc1 ∷ []) (tlv 240 (three_way_value way)) (λ e. absurd (omega arith))
    ∙ (ap (values_with 240) (sym (append-nil (tlv 240 (three_way_value way))))
    ∙ (tlv_here 240 (three_way_value way) [] ∙ ap (λ (vs : List (List ℕ)). three_way_value way ∷ vs) none_left))))

-- ---- the PDU and the frame

pub hello_short : (h : HelloValue) → length h.source.mac.bytes ≡ 6 → length (hello_bytes h) ≡ 20 + length h.tlvs
unfolding hello_bytes
hello_short h six = simp length-append (omega (arith, six))

said_state : (s : AdjState) → state_number s ≤ 2
said_state Down = omega arith
said_state Initializing = omega arith
said_state Up = omega arith

-- the hello that is read again, by one who looks at no octet
pub hello_content : ControlAgain → (system : SystemId) (p : ℕ) (port : BridgePort) → length system.mac.bytes ≡ 6 → p ≤ 32 → IsNamed (neighbour_of port.adjacency) → by_content (content_in (hello_frame system p port)) ≡ parsing.hello (hello_at system p port) (said p port.adjacency)
unfolding hello_frame
hello_content control_again system p port six low named =
    let h : HelloValue = hello_at system p port in
    let way : ThreeWay = said p port.adjacency in
    let short : length (hello_bytes h) ≤ 1497 = omega (arith, hello_short h six, tlvs_short way named) in
    let framed : content_in (control_bytes system.mac (hello_bytes h)) ≡ Ok (frames.Pdu (hello_bytes h)) =
    ap content_in (sym (append-nil (control_bytes system.mac (hello_bytes h)))) ∙ control_again system.mac (hello_bytes h) [] six short in
    let whole : IsPdu (hello h) = record { ids = six; whole = tlvs_whole way } in
    let again : three_way_of (three_way_value way) ≡ Ok way = three_way_again way (record { state = said_state port.adjacency.state; circuit = omega (arith, low); named = named }) in
    ap by_content framed
    ∙ (ap by_pdu (written_again (hello h) whole)
    ∙ (ap (λ (vs : List (List ℕ)). by_three_way h (slice_get vs 0)) (way_found way)
    ∙ ap (by_reading h) again))

-- the hello at a port is one of the bridge that has this adjacency there
pub neighbour_found : (w : BridgeView) (p : ℕ) (there : BridgePort) → port_at w p ≡ Some there → neighbour_at w p ≡ neighbour_of there.adjacency
unfolding neighbour_at
neighbour_found w p there at = ap (option_and_then (λ (x : BridgePort). neighbour_of x.adjacency)) at

pub hello_of : (w : BridgeView) (p : ℕ) (port there : BridgePort) → port_at w p ≡ Some there → there.adjacency ≡ port.adjacency → IsHelloOf w p (hello_at w.id.system p port) (said p port.adjacency)
hello_of w p port there at same = record {
  sender = refl;
  level = refl;
  holding = refl;
  state = said_state port.adjacency.state;
  neighbour = ap neighbour_of (sym same) ∙ sym (neighbour_found w p there at);
  spoken = λ other is.
      let one : there ≡ other = let both : Some there ≡ Some other = sym at ∙ is in cc in
      ap (said p) (sym same ∙ ap (λ (x : BridgePort). x.adjacency) one);
}

-- ---- its octets

-- the neighbour that is kept, if one is, is octets
abbrev pub AreOctets : Option End → Type 0
AreOctets None = ⊤
AreOctets (Some n) = IsBytes n.0.mac.bytes

kept_octets : (s : AdjState) (end : End) → IsBytes end.0.mac.bytes → AreOctets (kept_in s end)
kept_octets Down end octets = tt
kept_octets Initializing end octets = octets
kept_octets Up end octets = octets

pub port_octets : (port : BridgePort) → IsSoundPort port → AreOctets (neighbour_of port.adjacency)
port_octets port sound = kept_octets port.adjacency.state (port.adjacency.neighbour, port.adjacency.circuit) sound.octets

neighbour_small : (n : Option End) → AreOctets n → AreSmall (neighbour_bytes n)
neighbour_small None octets = tt
neighbour_small (Some n) octets = small_both n.0.mac.bytes (four n.1) (bytes_small n.0.mac.bytes octets) (four_small n.1)

way_small : (way : ThreeWay) → way.state ≤ 2 → AreOctets way.neighbour → AreSmall (three_way_value way)
way_small way state octets = (omega (arith, state), small_both (four way.circuit) (neighbour_bytes way.neighbour) (four_small way.circuit) (neighbour_small way.neighbour octets))

value_short : (way : ThreeWay) → IsNamed way.neighbour → length (three_way_value way) ≤ 15
value_short way named = omega (arith, named_short way.neighbour named)

tlvs_small : (way : ThreeWay) → way.state ≤ 2 → IsNamed way.neighbour → AreOctets way.neighbour → AreSmall (hello_tlvs way)
tlvs_small way state named octets =
    small_both (tlv 1 (0x03 ∷ 0x49 ∷ 0x00 ∷ 0x01 ∷ []) ++ tlv 129 (0xc1 ∷ [])) (tlv 240 (three_way_value way))
    (omega arith, (omega arith, (omega arith, (omega arith, (omega arith, (omega arith, (omega arith, (omega arith, (omega arith, tt)))))))))
    (omega arith, (omega (arith, value_short way named), way_small way state octets))

-- the bytes of a PDU in a frame
pub control_small : (sa : Mac) (pdu : List ℕ) → AreSmall sa.bytes → AreSmall pdu → AreSmall (control_bytes sa pdu)
control_small sa pdu from small =
    let bound : List ℕ = to_be_bytes w16 (3 + length pdu) in
    let before : AreSmall (sa.bytes ++ bound) = small_both sa.bytes bound from (omega arith, (omega arith, tt)) in
    let headed : AreSmall (sa.bytes ++ bound ++ llc) = small_both (sa.bytes ++ bound) llc before (omega arith, (omega arith, (omega arith, tt))) in
    (omega arith, (omega arith, (omega arith, (omega arith, (omega arith, (omega arith, small_both (sa.bytes ++ bound ++ llc) pdu headed small))))))

pub hello_small : (system : SystemId) (p : ℕ) (port : BridgePort) → IsBytes system.mac.bytes → p ≤ 32 → IsNamed (neighbour_of port.adjacency) → AreOctets (neighbour_of port.adjacency) → AreSmall (hello_frame system p port)
unfolding hello_frame hello_bytes
hello_small system p port from low named octets =
    let way : ThreeWay = said p port.adjacency in
    let small : AreSmall (hello_tlvs way) = tlvs_small way (said_state port.adjacency.state) named octets in
    let own : AreSmall system.mac.bytes = bytes_small system.mac.bytes from in
    let source : List ℕ = system.mac.bytes in
    let held : AreSmall (source ++ u16_bytes 3) = small_both source (u16_bytes 3) own (omega arith, (omega arith, tt)) in
    let bounded : AreSmall (source ++ u16_bytes 3 ++ u16_bytes (20 + length (hello_tlvs way))) =
    small_both (source ++ u16_bytes 3) (u16_bytes (20 + length (hello_tlvs way))) held (omega (arith, tlvs_short way named), (omega (arith, tlvs_short way named), tt)) in
    let circuit : AreSmall (source ++ u16_bytes 3 ++ u16_bytes (20 + length (hello_tlvs way)) ++ p ∷ []) =
    small_both (source ++ u16_bytes 3 ++ u16_bytes (20 + length (hello_tlvs way))) (p ∷ []) bounded (omega (arith, low), tt) in
    let whole = small_both (source ++ u16_bytes 3 ++ u16_bytes (20 + length (hello_tlvs way)) ++ p ∷ []) (hello_tlvs way) circuit small in
    control_small system.mac (hello_bytes (hello_at system p port)) own
    (omega arith, (omega arith, (omega arith, (omega arith, (omega arith, (omega arith, (omega arith, (omega arith, (omega arith, whole)))))))))

pub hello_heard : ControlAgain → (system : SystemId) (p : ℕ) (port : BridgePort) → length system.mac.bytes ≡ 6 → IsBytes system.mac.bytes → p ≤ 32 → IsNamed (neighbour_of port.adjacency) → AreOctets (neighbour_of port.adjacency) → parsed (hello_frame system p port) ≡ parsing.hello (hello_at system p port) (said p port.adjacency)
unfolding parsed
hello_heard control_again system p port six from low named octets =
    when_true (is_octets (hello_frame system p port)) (by_content (content_in (hello_frame system p port))) (parsing.dropped drop.Frame) (octets_small (hello_frame system p port) (hello_small system p port from low named octets))
    ∙ hello_content control_again system p port six low named

-- ---- which frames are sent

-- of two lists of frames
pub sent_left : (xs ys : List (ℕ × List ℕ)) (p : ℕ) (bytes : List ℕ) → IsSent xs p bytes → IsSent (xs ++ ys) p bytes
sent_left [] ys p bytes none = absurd none
sent_left (x ∷ xs) ys p bytes (inl here) = inl here
sent_left (x ∷ xs) ys p bytes (inr after) = inr (sent_left xs ys p bytes after)

pub sent_right : (xs ys : List (ℕ × List ℕ)) (p : ℕ) (bytes : List ℕ) → IsSent ys p bytes → IsSent (xs ++ ys) p bytes
sent_right [] ys p bytes some = some
sent_right (x ∷ xs) ys p bytes some = inr (sent_right xs ys p bytes some)

pub sent_either : (xs ys : List (ℕ × List ℕ)) (p : ℕ) (bytes : List ℕ) → IsSent (xs ++ ys) p bytes → IsSent xs p bytes ⊎ IsSent ys p bytes
sent_either [] ys p bytes some = inr some
sent_either (x ∷ xs) ys p bytes (inl here) = inl (inl here)
sent_either (x ∷ xs) ys p bytes (inr after) =
    elim (sent_either xs ys p bytes after) [
      | inl some ↦ inl (inr some)
      | inr some ↦ inr some
    ]

-- all of them at one port
numbered : {X : Type 0} (q : ℕ) (f : X → List ℕ) (xs : List X) (p : ℕ) (bytes : List ℕ) → IsSent (map (λ (x : X). (q, f x)) xs) p bytes → q ≡ p
numbered q f [] p bytes none = absurd none
numbered q f (x ∷ xs) p bytes (inl here) = here.0
numbered q f (x ∷ xs) p bytes (inr after) = numbered q f xs p bytes after

hello_sent_at : (has_carrier : Bool) (system : SystemId) (q : ℕ) (port : BridgePort) (p : ℕ) (bytes : List ℕ) → IsSent (if has_carrier then (q, hello_frame system q port) ∷ [] else []) p bytes → (q ≡ p) × (has_carrier ≡ true)
hello_sent_at true system q port p bytes (inl here) = (here.0, refl)
hello_sent_at true system q port p bytes (inr none) = absurd none
hello_sent_at false system q port p bytes none = absurd none

summed_at : (due : Bool) (system : SystemId) (q : ℕ) (db : Lsps) (p : ℕ) (bytes : List ℕ) → IsSent (if due then map (λ (c : CsnpValue). (q, csnp_frame system c)) (csnps_of system db) else []) p bytes → q ≡ p
summed_at true system q db p bytes some = numbered q (csnp_frame system) (csnps_of system db) p bytes some
summed_at false system q db p bytes none = absurd none

synced_where : (up : Bool) (system : SystemId) (q : ℕ) (port : BridgePort) (db : Lsps) (p : ℕ) (bytes : List ℕ) → IsSent (if up then summaries_at system q port db ++ lsps_at system q db ++ requests_at system q db else []) p bytes → (q ≡ p) × (up ≡ true)
synced_where false system q port db p bytes none = absurd none
synced_where true system q port db p bytes some =
    elim (sent_either (summaries_at system q port db ++ lsps_at system q db) (requests_at system q db) p bytes some) [
      | inl first ↦
          elim (sent_either (summaries_at system q port db) (lsps_at system q db) p bytes first) [
            | inl summary ↦ (summed_at port.csnp_due system q db p bytes summary, refl)
            | inr lsp ↦ (numbered q (lsp_frame system) (lsps_to_send db q) p bytes lsp, refl)
          ]
      | inr request ↦ (numbered q (psnp_frame system) (psnps_of system q db) p bytes request, refl)
    ]

-- a frame is sent at a port with carrier, or at one that is Up
pub at_port : (system : SystemId) (q : ℕ) (port : BridgePort) (db : Lsps) (p : ℕ) (bytes : List ℕ) → IsSent (sent_at system q port db) p bytes → (q ≡ p) × ((port.adjacency.carrier ≡ true) ⊎ (is_port_up port ≡ true))
at_port system q port db p bytes some =
    elim (sent_either (hellos_at system q port) (synced_at system q port db) p bytes some) [
      | inl first ↦ let at = hello_sent_at port.adjacency.carrier system q port p bytes first in (at.0, inl at.1)
      | inr synced ↦ let at = synced_where (is_port_up port) system q port db p bytes synced in (at.0, inr at.1)
    ]

-- the port at which a frame was sent, from a list of ports of which the first has number q
pub record SentAt (q : ℕ) (ports : List BridgePort) (p : ℕ) : Type 0 where
  pub port : BridgePort
  pub place : ℕ
  pub number : p ≡ q + place
  pub found : slice_get ports place ≡ Some port
  pub has_carrier : (port.adjacency.carrier ≡ true) ⊎ (is_port_up port ≡ true)

pub sent_where : (system : SystemId) (q : ℕ) (ports : List BridgePort) (db : Lsps) (p : ℕ) (bytes : List ℕ) → IsSent (sent_from system q ports db) p bytes → SentAt q ports p
sent_where system q [] db p bytes none = absurd none
sent_where system q (port ∷ ports) db p bytes some =
    elim (sent_either (sent_at system q port db) (sent_from system (q + 1) ports (after_sending_at q port db)) p bytes some) [
      | inl here ↦ let at = at_port system q port db p bytes here in record { port = port; place = 0; number = omega (arith, at.0); found = refl; has_carrier = at.1 }
      | inr after ↦
          let at = sent_where system (q + 1) ports (after_sending_at q port db) p bytes after in
          record { port = at.port; place = suc at.place; number = omega (arith, at.number); found = at.found; has_carrier = at.has_carrier }
    ]

-- Up is a port with carrier alone
up_has_carrier_in : (s : AdjState) (a : Adjacency) → SoundIn s a → is_up s ≡ true → a.carrier ≡ true
up_has_carrier_in Down a sound up = absurd cc
up_has_carrier_in Initializing a sound up = absurd cc
up_has_carrier_in Up a sound up = sound.1

pub up_has_carrier : (port : BridgePort) → IsSoundPort port → is_port_up port ≡ true → port.adjacency.carrier ≡ true
up_has_carrier port sound up = up_has_carrier_in port.adjacency.state port.adjacency sound.adjacency up

either_has_carrier : (port : BridgePort) → IsSoundPort port → (port.adjacency.carrier ≡ true) ⊎ (is_port_up port ≡ true) → port.adjacency.carrier ≡ true
either_has_carrier port sound (inl has_carrier) = has_carrier
either_has_carrier port sound (inr up) = up_has_carrier port sound up

-- the port of this number, a second later
later_port : (v : BridgeView) (p place : ℕ) (port : BridgePort) → p ≡ 1 + place → slice_get (map later v.ports) place ≡ Some port → option_map later (port_at v p) ≡ Some port
later_port v p place port number at =
    let before : p - 1 ≡ place = omega (arith, number) in
    let low : nat_le 1 p ≡ true = le-leb 1 p (omega (arith, number)) in
    rw (low, before) (sym (slice_get-map later v.ports place) ∙ at)

carrier_before : (o : Option BridgePort) (port : BridgePort) → option_map later o ≡ Some port → port.adjacency.carrier ≡ true → has_carrier_in o ≡ true
carrier_before None port e has_carrier = absurd cc
carrier_before (Some x) port e has_carrier = let same : later x ≡ port = cc in sym (later_carrier x) ∙ (ap (λ (y : BridgePort). y.adjacency.carrier) same ∙ has_carrier)

pub sent_with_carrier : SentWithCarrier
unfolding sent_in_tick has_carrier_at
sent_with_carrier v p bytes was some =
    let w : BridgeView = readied v in
    let at = sent_where w.id.system 1 w.ports w.database p bytes some in
    let there : slice_get (map later v.ports) at.place ≡ Some at.port = subst (λ (ports : List BridgePort). slice_get ports at.place ≡ Some at.port) (readied_ports v) at.found in
    let sound : IsSoundPort at.port = all_at (map later v.ports) at.place at.port (all_later v.ports was.ports) there in
    carrier_before (port_at v p) at.port (later_port v p at.place at.port at.number there) (either_has_carrier at.port sound at.has_carrier)

-- ---- and a hello is sent, and heard

hello_is_sent : (has_carrier : Bool) (system : SystemId) (q : ℕ) (port : BridgePort) → has_carrier ≡ true → IsSent (if has_carrier then (q, hello_frame system q port) ∷ [] else []) q (hello_frame system q port)
hello_is_sent true system q port e = inl (refl, refl)
hello_is_sent false system q port e = absurd cc

hello_sent : (system : SystemId) (q : ℕ) (ports : List BridgePort) (db : Lsps) (place p : ℕ) (port : BridgePort) → p ≡ q + place → slice_get ports place ≡ Some port → port.adjacency.carrier ≡ true → IsSent (sent_from system q ports db) p (hello_frame system p port)
hello_sent system q [] db place p port number at has_carrier = absurd cc
hello_sent system q (x ∷ ports) db zero p port number at has_carrier =
    let same : x ≡ port = cc in
    let first : p ≡ q = omega (arith, number) in
    let here : IsSent (hellos_at system q port) q (hello_frame system q port) = hello_is_sent port.adjacency.carrier system q port has_carrier in
    rw (same, first) (sent_left (sent_at system q port db) (sent_from system (q + 1) ports (after_sending_at q port db)) q (hello_frame system q port) (sent_left (hellos_at system q port) (synced_at system q port db) q (hello_frame system q port) here))
hello_sent system q (x ∷ ports) db (suc place) p port number at has_carrier =
    sent_right (sent_at system q x db) (sent_from system (q + 1) ports (after_sending_at q x db)) p (hello_frame system p port) (hello_sent system (q + 1) ports (after_sending_at q x db) place p port (omega (arith, number)) at has_carrier)

-- the port with carrier
record PortWithCarrier (v : BridgeView) (p : ℕ) : Type 0 where
  port : BridgePort
  there : port_at v p ≡ Some port
  has_carrier : port.adjacency.carrier ≡ true

carrier_port_at : (o : Option BridgePort) (v : BridgeView) (p : ℕ) → port_at v p ≡ o → has_carrier_in o ≡ true → PortWithCarrier v p
carrier_port_at None v p there has_carrier = absurd cc
carrier_port_at (Some port) v p there has_carrier = record { port = port; there = there; has_carrier = has_carrier }

pub hellos_are_heard : ControlAgain → HellosAreHeard
unfolding sent_in_tick after_tick has_carrier_at
hellos_are_heard control_again v p was carrier named =
    let w : BridgeView = readied v in
    let g = carrier_port_at (port_at v p) v p refl carrier in
    let at = found v.ports p g.port g.there in
    let port : BridgePort = later g.port in
    let there : slice_get w.ports (p - 1) ≡ Some port =
    ap (λ (ports : List BridgePort). slice_get ports (p - 1)) (readied_ports v) ∙ (slice_get-map later v.ports (p - 1) ∙ ap (option_map later) at.1) in
    let afterwards : port_at (after_tick v) p ≡ Some (ticked g.port) = tick_port v p ∙ ap (option_map ticked) g.there in
    let kept : neighbour_at (after_tick v) p ≡ neighbour_of port.adjacency = neighbour_found (after_tick v) p (ticked g.port) afterwards in
    let same : w.id ≡ v.id = ap (λ (u : BridgeView). u.id) (readied_rest v) in
    let within : p - 1 < length v.ports = slice_get_within v.ports (p - 1) g.port at.1 in
    let six : length w.id.system.mac.bytes ≡ 6 = ap (λ (id : BridgeId). length id.system.mac.bytes) same ∙ was.config.system.bytes in
    let from : IsBytes w.id.system.mac.bytes = subst (λ (id : BridgeId). IsBytes id.system.mac.bytes) (sym same) was.config.system.octets in
    record {
      bytes = hello_frame w.id.system p port;
      sent = hello_sent w.id.system 1 w.ports w.database (p - 1) p port (omega (arith, at.0)) there (later_carrier g.port ∙ g.has_carrier);
      hello = hello_at w.id.system p port;
      way = said p port.adjacency;
      heard = hello_heard control_again w.id.system p port six from (omega (arith, at.0, within, was.few)) (subst IsNamed kept named) (port_octets port (later_sound g.port (sound_at v p g.port was.ports g.there)));
      own = hello_of (after_tick v) p port (ticked g.port) afterwards refl;
    }
