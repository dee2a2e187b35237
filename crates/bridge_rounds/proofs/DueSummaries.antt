-- CSNPs are sent only where they are due: no other frame that a bridge sends is heard as one.
use Rattle.std.proofs.Common.{◌≡◌, ◌≢◌, inl, inr, ◌≤◌, ◌+◌, ◌-◌, ℕ, suc, Bool, true, false, List, [], ◌∷◌, ◌++◌, length, map, filter, refl, sym, ap, ◌∙◌, subst, Option, Some, None, Result, Ok, Err, arith}
use Rattle.std.specs.Prelude.{slice_get, if◌then◌else◌}
use Rattle.std.specs.Option.{option_map}
use Rattle.std.specs.List.{AllByRecursion}
use Rattle.std.specs.FinMap.{entries}
use Rattle.std.proofs.lemmas.Bool.{and_parts}
use Rattle.std.proofs.lemmas.Option.{slice_get-map}
use Rattle.spb_types.specs.declared.address.SystemId.{SystemId}
use Rattle.spb_types.specs.declared.address.LspId.{LspId}
use Rattle.spb_types.specs.declared.drop_reason.DropReason.TheVariants as drop
use Rattle.spb_types.specs.declared.ports.PortSet.{PortSet}
use Rattle.spb_types.specs.Ports.{has}
use Rattle.isis_pdu.specs.Pdu.{HelloValue, LspValue, CsnpValue, PsnpValue, hello}
use Rattle.isis_pdu.specs.Grammar.{IsId}
use Rattle.isis_pdu.specs.Spelling.{hello_bytes}
use Rattle.isis_pdu.proofs.FormatLaws.{written_again}
use Rattle.spb_tlvs.specs.declared.entries.SnpEntry.{SnpEntry}
use Rattle.spb_tlvs.specs.declared.error.TlvError.{TlvError}
use Rattle.spb_tlvs.specs.declared.three_way.ThreeWay.{ThreeWay}
use Rattle.spb_tlvs.specs.RoundTrip.{IsEntry}
use Rattle.spb_tlvs.specs.ThreeWay.{three_way_of}
use Rattle.spb_tlvs.specs.Tlv.{values_with}
use Rattle.spb_tlvs.proofs.Numbers.{weaker}
use Rattle.itag_frames.specs.Frame.{control_bytes}
use Rattle.itag_frames.specs.Classify.{content_in, ControlAgain}
use Rattle.lsdb.specs.Entry.{Entry}
use Rattle.lsdb.specs.Database.{Lsps}
use Rattle.flooding.specs.Sending.{lsp_in, lsps_to_send}
use Rattle.flooding.specs.Entries.{IsSendable, AllEntries}
use Rattle.snp_sync.specs.Sized.{IsSizedEntry}
use Rattle.snp_sync.specs.Sending.{csnps_of, psnp_for, psnp_chunks, psnps_of}
use Rattle.snp_sync.proofs.Ranges.{of_entries, psnp_chunks_are_short}
use Rattle.snp_sync.proofs.Said.{psnp_entries_are_sized}
use Rattle.adjacency.specs.Adjacency.{said, after_second}
use Rattle.bridge_api.specs.declared.port.BridgePort.{BridgePort}
use Rattle.bridge_api.specs.View.{BridgeView, port_at, is_port_up, is_csnp_due_in, is_csnp_due_at, up_ports}
use Rattle.bridge_api.specs.Parsing.{Parsed, is_octets, parsed, by_content, by_pdu, by_three_way, by_reading}
use Rattle.bridge_api.specs.Parsing as parsing
use Rattle.bridge_api.specs.Hearing.{with_adjacency}
use Rattle.bridge_api.specs.Ticking.{later, readied, hello_at, hello_frame, lsp_frame, csnp_frame, psnp_frame, hellos_at, summaries_at, lsps_at, requests_at, synced_at, sent_at, after_sending_at, sent_from, sent_in_tick}
use Rattle.bridge_api.specs.Laws.{IsSoundPort, IsSent}
use Rattle.bridge_api.proofs.Changes.{readied_ports, readied_rest}
use Rattle.bridge_api.proofs.Data.{IsSoundData, after_sending_at_keeps}
use Rattle.bridge_api.proofs.DataSteps.{readied_holds}
use Rattle.bridge_api.proofs.Hellos.{tlvs_whole, hello_short, sent_either, at_port}
use Rattle.bridge_api.proofs.Places.{port_found}
use Rattle.bridge_api.proofs.SoundPorts.{AreSoundPorts, all_later}
use Rattle.bridge_api.proofs.Spelled.{pdu_framed, lsp_taken, psnp_taken}
use Rattle.bridge_laws.proofs.Brief.{kept_short}
use Rattle.bridge_laws.proofs.Forwarded.{sent_is}
use Rattle.bridge_laws.proofs.Frames.{all_mapped, all_kept}
use Rattle.bridge_rounds.specs.Seconds.{SummariesAreDue}

-- ---- a frame that isn't heard as a CSNP, whatever octets it is made of

abbrev IsNoCsnp : List ℕ → Type 0
IsNoCsnp bytes = (c : CsnpValue) → by_content (content_in bytes) ≢ parsing.csnp c

no_csnp_by_way : (h : HelloValue) (r : Result ThreeWay TlvError) (c : CsnpValue) → by_reading h r ≢ parsing.csnp c
no_csnp_by_way h (Ok way) c is = absurd cc
no_csnp_by_way h (Err e) c is = absurd cc

no_csnp_by_value : (h : HelloValue) (o : Option (List ℕ)) (c : CsnpValue) → by_three_way h o ≢ parsing.csnp c
no_csnp_by_value h None c is = absurd cc
no_csnp_by_value h (Some value) c is = no_csnp_by_way h (three_way_of value) c is

module _ (again : ControlAgain) (system : SystemId) (six : IsId system) where
  hello_is_no_csnp : (p : ℕ) (port : BridgePort) → IsSoundPort port → IsNoCsnp (hello_frame system p port)
  unfolding hello_frame
  hello_is_no_csnp p port sound c is =
      let h : HelloValue = hello_at system p port in
      let value : Option (List ℕ) = slice_get (values_with 240 h.tlvs) 0 in
      let short : length (hello_bytes h) ≤ 1497 = omega (arith, hello_short h six, kept_short port.adjacency.state (port.adjacency.neighbour, port.adjacency.circuit) sound.neighbour) in
      let taken : by_content (content_in (control_bytes system.mac (hello_bytes h))) ≡ by_three_way h value =
      ap by_content (pdu_framed again system.mac (hello_bytes h) six short) ∙ ap by_pdu (written_again (hello h) (record { ids = six; whole = tlvs_whole (said p port.adjacency) })) in
      no_csnp_by_value h value c (sym taken ∙ is)

  lsp_is_no_csnp : (id : LspId) (e : Entry) → IsId id.system → IsSendable id e → IsNoCsnp (lsp_frame system (lsp_in id e))
  lsp_is_no_csnp id e named sendable c is = let wrong : parsing.lsp (lsp_in id e) ≡ parsing.csnp c = sym (lsp_taken again system id e six named sendable) ∙ is in absurd cc

  psnp_is_no_csnp : (chunk : List SnpEntry) → AllByRecursion IsEntry chunk → length chunk ≤ 90 → IsNoCsnp (psnp_frame system (psnp_for system chunk))
  psnp_is_no_csnp chunk all few c is = let wrong : parsing.psnp (psnp_for system chunk) ≡ parsing.csnp c = sym (psnp_taken again system chunk six all few) ∙ is in absurd cc

-- ---- what is sent at a port

abbrev AreNoCsnps : List (ℕ × List ℕ) → Type 0
AreNoCsnps frames = AllByRecursion (λ s. IsNoCsnp s.1) frames

where_so : (b : Bool) (frames : List (ℕ × List ℕ)) → AreNoCsnps frames → AreNoCsnps (if b then frames else [])
where_so true frames all = all
where_so false frames all = tt

both_all : {X : Type 0} (P Q : X → Type 0) (xs : List X) → AllByRecursion P xs → AllByRecursion Q xs → AllByRecursion (λ x. P x × Q x) xs
both_all P Q [] all more = tt
both_all P Q (x ∷ xs) all more = ((all.0, more.0), both_all P Q xs all.1 more.1)

sent_where_so : (b : Bool) (frames : List (ℕ × List ℕ)) (p : ℕ) (bytes : List ℕ) → IsSent (if b then frames else []) p bytes → (b ≡ true) × IsSent frames p bytes
sent_where_so true frames p bytes some = (refl, some)
sent_where_so false frames p bytes some = absurd some

module _ (again : ControlAgain) (up : PortSet) (system : SystemId) (q : ℕ) (port : BridgePort) (db : Lsps) (six : IsId system) (sound : IsSoundPort port) (held : IsSoundData up system db) where
  lsps_are_no_csnps : AreNoCsnps (lsps_at system q db)
  lsps_are_no_csnps =
      let each_one : AllEntries (λ id e. IsNoCsnp (lsp_frame system (lsp_in id e))) db = λ id e at. lsp_is_no_csnp again system six id e (held.sized id e at).named.system (held.sendable id e at) in
      all_mapped (λ (l : LspValue). (q, lsp_frame system l)) (λ s. IsNoCsnp s.1) (lsps_to_send db q)
      (all_mapped (λ (e : LspId × Entry). lsp_in e.0 e.1) (λ (l : LspValue). IsNoCsnp (lsp_frame system l)) (filter (λ (e : LspId × Entry). has e.1.srm q) (entries db))
      (all_kept (λ (e : LspId × Entry). IsNoCsnp (lsp_frame system (lsp_in e.0 e.1))) (λ (e : LspId × Entry). has e.1.srm q) (entries db) (of_entries (λ id e. IsNoCsnp (lsp_frame system (lsp_in id e))) db each_one)))

  requests_are_no_csnps : AreNoCsnps (requests_at system q db)
  requests_are_no_csnps =
      let chunks : List (List SnpEntry) = psnp_chunks q db in
      let IsChunk : List SnpEntry → Type 0 = λ chunk. ((1 ≤ length chunk) × (length chunk ≤ 90)) × AllByRecursion IsSizedEntry chunk in
      let all : AllByRecursion IsChunk chunks = both_all (λ chunk. (1 ≤ length chunk) × (length chunk ≤ 90)) (AllByRecursion IsSizedEntry) chunks (psnp_chunks_are_short q db) (psnp_entries_are_sized q db held.sized) in
      all_mapped (λ (s : PsnpValue). (q, psnp_frame system s)) (λ s. IsNoCsnp s.1) (psnps_of system q db)
      (all_mapped (psnp_for system) (λ (s : PsnpValue). IsNoCsnp (psnp_frame system s)) chunks
      (weaker IsChunk (λ (chunk : List SnpEntry). IsNoCsnp (psnp_frame system (psnp_for system chunk))) chunks
      (λ chunk h. psnp_is_no_csnp again system six chunk (weaker IsSizedEntry IsEntry chunk (λ entry s. s.entry) h.1) h.0.1) all))

  hellos_are_no_csnps : AreNoCsnps (hellos_at system q port)
  hellos_are_no_csnps = where_so port.adjacency.carrier ((q, hello_frame system q port) ∷ []) (hello_is_no_csnp again system six q port sound, tt)

  -- one that is heard as a CSNP is among those that are sent where CSNPs are due
  synced_is_due : (p : ℕ) (bytes : List ℕ) (c : CsnpValue) → IsSent (summaries_at system q port db ++ lsps_at system q db ++ requests_at system q db) p bytes → by_content (content_in bytes) ≡ parsing.csnp c → port.csnp_due ≡ true
  synced_is_due p bytes c some is =
      elim (sent_either (summaries_at system q port db ++ lsps_at system q db) (requests_at system q db) p bytes some) [
        | inl first ↦ elim (sent_either (summaries_at system q port db) (lsps_at system q db) p bytes first) [
          | inl summary ↦ (sent_where_so port.csnp_due (map (λ c. (q, csnp_frame system c)) (csnps_of system db)) p bytes summary).0
          | inr lsp ↦ absurd (sent_is IsNoCsnp (lsps_at system q db) p bytes lsps_are_no_csnps lsp c is)
        ]
        | inr request ↦ absurd (sent_is IsNoCsnp (requests_at system q db) p bytes requests_are_no_csnps request c is)
      ]

  sent_is_due : (p : ℕ) (bytes : List ℕ) (c : CsnpValue) → IsSent (sent_at system q port db) p bytes → by_content (content_in bytes) ≡ parsing.csnp c → port.csnp_due ≡ true
  sent_is_due p bytes c some is =
      elim (sent_either (hellos_at system q port) (synced_at system q port db) p bytes some) [
        | inl first ↦ absurd (sent_is IsNoCsnp (hellos_at system q port) p bytes hellos_are_no_csnps first c is)
        | inr synced ↦ synced_is_due p bytes c (sent_where_so (is_port_up port) (summaries_at system q port db ++ lsps_at system q db ++ requests_at system q db) p bytes synced).1 is
      ]

-- ---- and of all ports, from number q on

-- the port at which it was sent, where CSNPs are due
record IsDueAt (q : ℕ) (ports : List BridgePort) (p : ℕ) : Type 0 where
  port : BridgePort
  place : ℕ
  number : p ≡ q + place
  found : slice_get ports place ≡ Some port
  due : port.csnp_due ≡ true

ports_are_due : ControlAgain → (up : PortSet) (system : SystemId) (q : ℕ) (ports : List BridgePort) (db : Lsps) (p : ℕ) (bytes : List ℕ) (c : CsnpValue) → IsId system → AreSoundPorts ports → IsSoundData up system db
    → IsSent (sent_from system q ports db) p bytes → by_content (content_in bytes) ≡ parsing.csnp c → IsDueAt q ports p
ports_are_due again up system q [] db p bytes c six sound held some is = absurd some
ports_are_due again up system q (port ∷ ports) db p bytes c six sound held some is =
    elim (sent_either (sent_at system q port db) (sent_from system (q + 1) ports (after_sending_at q port db)) p bytes some) [
      | inl here ↦
          let at = at_port system q port db p bytes here in
          record { port = port; place = 0; number = omega (arith, at.0); found = refl; due = sent_is_due again up system q port db six sound.0 held p bytes c here is }
      | inr after ↦
          let at = ports_are_due again up system (q + 1) ports (after_sending_at q port db) p bytes c six sound.1 (after_sending_at_keeps up system q port db held) after is in
          record { port = at.port; place = suc at.place; number = omega (arith, at.number); found = at.found; due = at.due }
    ]

-- ---- a second

taken_as : (octets : Bool) (j : Parsed) (c : CsnpValue) → (if octets then j else parsing.dropped drop.Frame) ≡ parsing.csnp c → j ≡ parsing.csnp c
taken_as true j c is = is
taken_as false j c is = absurd cc

-- what is due when the counts fell was due before
was_due : (o : Option BridgePort) (port : BridgePort) → option_map later o ≡ Some port → port.csnp_due ≡ true → is_csnp_due_in o ≡ true
was_due None port is due = absurd cc
was_due (Some x) port is due =
    let same : later x ≡ port = cc in
    (and_parts x.csnp_due (is_port_up (with_adjacency (after_second x.adjacency) x)) (ap (λ (y : BridgePort). y.csnp_due) same ∙ due)).0

pub summaries_are_due : ControlAgain → SummariesAreDue
unfolding sent_in_tick parsed is_csnp_due_at
summaries_are_due again v p bytes c was some is =
    let r : BridgeView = readied v in
    let six : IsId r.id.system = ap (λ (u : BridgeView). length u.id.system.mac.bytes) (readied_rest v) ∙ was.config.system.bytes in
    let sound : AreSoundPorts r.ports = subst AreSoundPorts (sym (readied_ports v)) (all_later v.ports was.ports) in
    let at = ports_are_due again (up_ports r) r.id.system 1 r.ports r.database p bytes c six sound (readied_holds v was) some (taken_as (is_octets bytes) (by_content (content_in bytes)) c is) in
    let place : p - 1 ≡ at.place = omega (arith, at.number) in
    let low : 1 ≤ p = omega (arith, at.number) in
    let there : port_at r p ≡ Some at.port = port_found r p low ∙ (ap (slice_get r.ports) place ∙ at.found) in
    let before : option_map later (port_at v p) ≡ Some at.port =
    ap (option_map later) (port_found v p low ∙ ap (slice_get v.ports) place)
    ∙ (sym (slice_get-map later v.ports at.place) ∙ (ap (λ (ports : List BridgePort). slice_get ports at.place) (sym (readied_ports v)) ∙ at.found)) in
    (ap is_csnp_due_in there ∙ at.due, was_due (port_at v p) at.port before at.due)
