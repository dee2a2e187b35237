-- LSPs are sent only where they have SRM: no other frame that a bridge sends is heard as one.
use Rattle.std.proofs.Common.{◌≡◌, ◌≢◌, inl, inr, ◌≤◌, ◌+◌, ℕ, Bool, true, false, List, [], ◌∷◌, ◌++◌, length, map, filter, refl, sym, ap, ◌∙◌, subst, Option, Some, None, Result, Ok, Err, arith}
use Rattle.std.specs.Prelude.{slice_get, if◌then◌else◌}
use Rattle.std.specs.List.{AllByRecursion}
use Rattle.std.specs.FinMap.{get, entries}
use Rattle.spb_types.specs.declared.address.SystemId.{SystemId}
use Rattle.spb_types.specs.declared.address.LspId.{LspId}
use Rattle.spb_types.specs.declared.drop_reason.DropReason.TheVariants as drop
use Rattle.spb_types.specs.declared.ports.PortSet.{PortSet}
use Rattle.spb_types.specs.Ports.{has}
use Rattle.isis_pdu.specs.Pdu.{HelloValue, LspValue, CsnpValue, PsnpValue, hello}
use Rattle.isis_pdu.specs.Grammar.{IsId}
use Rattle.isis_pdu.specs.Spelling.{hello_bytes}
use Rattle.isis_pdu.proofs.FormatLaws.{written_again}
use Rattle.spb_tlvs.specs.declared.entries.SnpEntry.{SnpEntry}
use Rattle.spb_tlvs.specs.declared.error.TlvError.{TlvError}
use Rattle.spb_tlvs.specs.declared.three_way.ThreeWay.{ThreeWay}
use Rattle.spb_tlvs.specs.RoundTrip.{IsEntry}
use Rattle.spb_tlvs.specs.ThreeWay.{three_way_of}
use Rattle.spb_tlvs.specs.Tlv.{values_with}
use Rattle.spb_tlvs.proofs.Numbers.{weaker}
use Rattle.itag_frames.specs.Frame.{control_bytes}
use Rattle.itag_frames.specs.Classify.{content_in, ControlAgain}
use Rattle.lsdb.specs.Entry.{Entry}
use Rattle.lsdb.specs.Database.{Lsps, srm_in}
use Rattle.flooding.specs.Sending.{lsp_in, lsps_to_send}
use Rattle.snp_sync.specs.Sized.{IsLspId, IsSizedEntry}
use Rattle.snp_sync.specs.Sending.{CsnpChunk, csnp_for, csnp_chunks, csnps_of, psnp_for, psnp_chunks, psnps_of}
use Rattle.snp_sync.proofs.Ranges.{of_entries, csnp_chunks_are_short, csnp_chunks_end_at_ids, psnp_chunks_are_short}
use Rattle.snp_sync.proofs.Said.{csnp_entries_are_sized, psnp_entries_are_sized}
use Rattle.spb_content.proofs.Members.{all_has, has_all, filter_has}
use Rattle.adjacency.specs.Adjacency.{said}
use Rattle.bridge_api.specs.declared.port.BridgePort.{BridgePort}
use Rattle.bridge_api.specs.View.{BridgeView, is_port_up, up_ports}
use Rattle.bridge_api.specs.Parsing.{Parsed, is_octets, parsed, by_content, by_pdu, by_three_way, by_reading}
use Rattle.bridge_api.specs.Parsing as parsing
use Rattle.bridge_api.specs.Ticking.{readied, hello_at, hello_frame, lsp_frame, csnp_frame, psnp_frame, hellos_at, summaries_at, lsps_at, requests_at, synced_at, sent_at, after_sending_at, sent_from, sent_in_tick}
use Rattle.bridge_api.specs.Laws.{IsSoundPort, IsSent}
use Rattle.bridge_api.specs.Duties.{but_for_ssn}
use Rattle.bridge_api.proofs.Changes.{readied_ports, readied_rest}
use Rattle.bridge_api.proofs.Data.{IsSoundData, after_sending_at_keeps}
use Rattle.bridge_api.proofs.DataSteps.{readied_holds}
use Rattle.bridge_api.proofs.Hellos.{tlvs_whole, hello_short, sent_either, at_port}
use Rattle.bridge_api.proofs.ServingPorts.{after_sending_holds}
use Rattle.bridge_api.proofs.SoundPorts.{AreSoundPorts, all_later}
use Rattle.bridge_api.proofs.Spelled.{pdu_framed, lsp_taken, csnp_taken, psnp_taken}
use Rattle.bridge_laws.proofs.Brief.{kept_short}
use Rattle.bridge_laws.proofs.Forwarded.{sent_is}
use Rattle.bridge_laws.proofs.Frames.{all_mapped}
use Rattle.bridge_rounds.specs.LinkFrames.{LspsAreFlagged}

-- ---- a frame that isn't heard as an LSP, whatever octets it is made of

abbrev IsNoLsp : List ℕ → Type 0
IsNoLsp bytes = (l : LspValue) → by_content (content_in bytes) ≢ parsing.lsp l

no_lsp_by_way : (h : HelloValue) (r : Result ThreeWay TlvError) (l : LspValue) → by_reading h r ≢ parsing.lsp l
no_lsp_by_way h (Ok way) l is = absurd cc
no_lsp_by_way h (Err e) l is = absurd cc

no_lsp_by_value : (h : HelloValue) (o : Option (List ℕ)) (l : LspValue) → by_three_way h o ≢ parsing.lsp l
no_lsp_by_value h None l is = absurd cc
no_lsp_by_value h (Some value) l is = no_lsp_by_way h (three_way_of value) l is

module _ (again : ControlAgain) (system : SystemId) (six : IsId system) where
  hello_is_no_lsp : (p : ℕ) (port : BridgePort) → IsSoundPort port → IsNoLsp (hello_frame system p port)
  unfolding hello_frame
  hello_is_no_lsp p port sound l is =
      let h : HelloValue = hello_at system p port in
      let value : Option (List ℕ) = slice_get (values_with 240 h.tlvs) 0 in
      let short : length (hello_bytes h) ≤ 1497 = omega (arith, hello_short h six, kept_short port.adjacency.state (port.adjacency.neighbour, port.adjacency.circuit) sound.neighbour) in
      let taken : by_content (content_in (control_bytes system.mac (hello_bytes h))) ≡ by_three_way h value =
      ap by_content (pdu_framed again system.mac (hello_bytes h) six short) ∙ ap by_pdu (written_again (hello h) (record { ids = six; whole = tlvs_whole (said p port.adjacency) })) in
      no_lsp_by_value h value l (sym taken ∙ is)

  csnp_is_no_lsp : (chunk : CsnpChunk) → (length chunk.entries ≤ 90) × (IsLspId chunk.start × IsLspId chunk.end) → AllByRecursion IsSizedEntry chunk.entries → IsNoLsp (csnp_frame system (csnp_for system chunk))
  csnp_is_no_lsp chunk sides sized l is =
      let wrong : parsing.csnp (csnp_for system chunk) ≡ parsing.lsp l = sym (csnp_taken again system chunk six sides.1.0 sides.1.1 (weaker IsSizedEntry IsEntry chunk.entries (λ entry s. s.entry) sized) sides.0) ∙ is in absurd cc

  psnp_is_no_lsp : (chunk : List SnpEntry) → AllByRecursion IsSizedEntry chunk → length chunk ≤ 90 → IsNoLsp (psnp_frame system (psnp_for system chunk))
  psnp_is_no_lsp chunk sized few l is =
      let wrong : parsing.psnp (psnp_for system chunk) ≡ parsing.lsp l = sym (psnp_taken again system chunk six (weaker IsSizedEntry IsEntry chunk (λ entry s. s.entry) sized) few) ∙ is in absurd cc

-- ---- what is sent at a port

where_so : (P : List ℕ → Type 0) (b : Bool) (frames : List (ℕ × List ℕ)) → AllByRecursion (λ s. P s.1) frames → AllByRecursion (λ s. P s.1) (if b then frames else [])
where_so P true frames all = all
where_so P false frames all = tt

sent_where_so : (b : Bool) (frames : List (ℕ × List ℕ)) (p : ℕ) (bytes : List ℕ) → IsSent (if b then frames else []) p bytes → IsSent frames p bytes
sent_where_so true frames p bytes some = some
sent_where_so false frames p bytes some = absurd some

-- a frame that is heard as an LSP has it from a database in which it has SRM at the port
abbrev IsFlaggedIn : Lsps → ℕ → List ℕ → Type 0
IsFlaggedIn db p bytes = (l : LspValue) → by_content (content_in bytes) ≡ parsing.lsp l → has (srm_in (get db l.id)) p ≡ true

module _ (again : ControlAgain) (up : PortSet) (system : SystemId) (q : ℕ) (port : BridgePort) (db : Lsps) (six : IsId system) (sound : IsSoundPort port) (held : IsSoundData up system db) where
  lsp_is_flagged : (id : LspId) (e : Entry) → get db id ≡ Some e → has e.srm q ≡ true → IsFlaggedIn db q (lsp_frame system (lsp_in id e))
  lsp_is_flagged id e at set l is =
      let same : parsing.lsp (lsp_in id e) ≡ parsing.lsp l = sym (lsp_taken again system id e six (held.sized id e at).named.system (held.sendable id e at)) ∙ is in
      let this : lsp_in id e ≡ l = cc in
      subst (λ (k : LspValue). has (srm_in (get db k.id)) q ≡ true) this (ap (λ (o : Option Entry). has (srm_in o) q) at ∙ set)

  lsps_are_flagged_in : AllByRecursion (λ s. IsFlaggedIn db q s.1) (lsps_at system q db)
  lsps_are_flagged_in =
      all_mapped (λ (l : LspValue). (q, lsp_frame system l)) (λ s. IsFlaggedIn db q s.1) (lsps_to_send db q)
      (all_mapped (λ (e : LspId × Entry). lsp_in e.0 e.1) (λ (l : LspValue). IsFlaggedIn db q (lsp_frame system l)) (filter (λ (e : LspId × Entry). has e.1.srm q) (entries db))
      (has_all (λ (e : LspId × Entry). IsFlaggedIn db q (lsp_frame system (lsp_in e.0 e.1))) (filter (λ (e : LspId × Entry). has e.1.srm q) (entries db))
      (λ e among.
      let found = filter_has (λ (d : LspId × Entry). has d.1.srm q) e (entries db) among in
      lsp_is_flagged e.0 e.1 (all_has (λ (d : LspId × Entry). get db d.0 ≡ Some d.1) e (entries db) (of_entries (λ id d. get db id ≡ Some d) db (λ id d at. at)) found.0) found.1)))

  summaries_are_no_lsps : AllByRecursion (λ s. IsNoLsp s.1) (summaries_at system q port db)
  summaries_are_no_lsps =
      where_so IsNoLsp port.csnp_due (map (λ c. (q, csnp_frame system c)) (csnps_of system db))
      (all_mapped (λ (c : CsnpValue). (q, csnp_frame system c)) (λ s. IsNoLsp s.1) (csnps_of system db)
      (all_mapped (csnp_for system) (λ (c : CsnpValue). IsNoLsp (csnp_frame system c)) (csnp_chunks db)
      (has_all (λ (chunk : CsnpChunk). IsNoLsp (csnp_frame system (csnp_for system chunk))) (csnp_chunks db)
      (λ chunk among. csnp_is_no_lsp again system six chunk (
        all_has (λ (c : CsnpChunk). length c.entries ≤ 90) chunk (csnp_chunks db) (csnp_chunks_are_short db) among,
        all_has (λ (c : CsnpChunk). IsLspId c.start × IsLspId c.end) chunk (csnp_chunks db) (csnp_chunks_end_at_ids db (λ id e at. (held.sized id e at).named)) among,
      )
      (all_has (λ (c : CsnpChunk). AllByRecursion IsSizedEntry c.entries) chunk (csnp_chunks db) (csnp_entries_are_sized db held.sized) among)))))

  requests_are_no_lsps : AllByRecursion (λ s. IsNoLsp s.1) (requests_at system q db)
  requests_are_no_lsps =
      all_mapped (λ (s : PsnpValue). (q, psnp_frame system s)) (λ s. IsNoLsp s.1) (psnps_of system q db)
      (all_mapped (psnp_for system) (λ (s : PsnpValue). IsNoLsp (psnp_frame system s)) (psnp_chunks q db)
      (has_all (λ (chunk : List SnpEntry). IsNoLsp (psnp_frame system (psnp_for system chunk))) (psnp_chunks q db)
      (λ chunk among. psnp_is_no_lsp again system six chunk (all_has (AllByRecursion IsSizedEntry) chunk (psnp_chunks q db) (psnp_entries_are_sized q db held.sized) among)
      (all_has (λ (c : List SnpEntry). (1 ≤ length c) × (length c ≤ 90)) chunk (psnp_chunks q db) (psnp_chunks_are_short q db) among).1)))

  sent_is_flagged : (p : ℕ) (bytes : List ℕ) → IsSent (sent_at system q port db) p bytes → IsFlaggedIn db q bytes
  sent_is_flagged p bytes some l is =
      elim (sent_either (hellos_at system q port) (synced_at system q port db) p bytes some) [
        | inl first ↦
            absurd (sent_is IsNoLsp (hellos_at system q port) p bytes (where_so IsNoLsp port.adjacency.carrier ((q, hello_frame system q port) ∷ []) (hello_is_no_lsp again system six q port sound, tt)) first l is)
        | inr synced ↦ by_kind (sent_where_so (is_port_up port) (summaries_at system q port db ++ lsps_at system q db ++ requests_at system q db) p bytes synced)
      ]
    where
      by_kind : IsSent (summaries_at system q port db ++ lsps_at system q db ++ requests_at system q db) p bytes → has (srm_in (get db l.id)) q ≡ true
      by_kind any =
          elim (sent_either (summaries_at system q port db ++ lsps_at system q db) (requests_at system q db) p bytes any) [
            | inl first ↦ elim (sent_either (summaries_at system q port db) (lsps_at system q db) p bytes first) [
              | inl summary ↦ absurd (sent_is IsNoLsp (summaries_at system q port db) p bytes summaries_are_no_lsps summary l is)
              | inr lsp ↦ sent_is (IsFlaggedIn db q) (lsps_at system q db) p bytes lsps_are_flagged_in lsp l is
            ]
            | inr request ↦ absurd (sent_is IsNoLsp (requests_at system q db) p bytes requests_are_no_lsps request l is)
          ]

-- ---- and of all ports, from number q on

srm_kept : (p : ℕ) (o : Option Entry) → has (srm_in (but_for_ssn o)) p ≡ has (srm_in o) p
srm_kept p None = refl
srm_kept p (Some e) = refl

pub same_srm : (p : ℕ) (o n : Option Entry) → but_for_ssn n ≡ but_for_ssn o → has (srm_in n) p ≡ has (srm_in o) p
same_srm p o n same = sym (srm_kept p n) ∙ (ap (λ (x : Option Entry). has (srm_in x) p) same ∙ srm_kept p o)

ports_flagged : ControlAgain → (up : PortSet) (system : SystemId) (q : ℕ) (ports : List BridgePort) (db : Lsps) (p : ℕ) (bytes : List ℕ) → IsId system → AreSoundPorts ports → IsSoundData up system db
    → IsSent (sent_from system q ports db) p bytes → IsFlaggedIn db p bytes
ports_flagged again up system q [] db p bytes six sound held some l is = absurd some
ports_flagged again up system q (port ∷ ports) db p bytes six sound held some l is =
    elim (sent_either (sent_at system q port db) (sent_from system (q + 1) ports (after_sending_at q port db)) p bytes some) [
      | inl here ↦
          subst (λ (k : ℕ). has (srm_in (get db l.id)) k ≡ true) (at_port system q port db p bytes here).0 (sent_is_flagged again up system q port db six sound.0 held p bytes here l is)
      | inr after ↦
          sym (same_srm p (get db l.id) (get (after_sending_at q port db) l.id) (after_sending_holds q port db l.id))
          ∙ ports_flagged again up system (q + 1) ports (after_sending_at q port db) p bytes six sound.1 (after_sending_at_keeps up system q port db held) after l is
    ]

-- ---- a second

taken_as : (octets : Bool) (j : Parsed) (l : LspValue) → (if octets then j else parsing.dropped drop.Frame) ≡ parsing.lsp l → j ≡ parsing.lsp l
taken_as true j l is = is
taken_as false j l is = absurd cc

pub lsps_are_flagged : ControlAgain → LspsAreFlagged
unfolding sent_in_tick parsed
lsps_are_flagged again v p bytes l was some is =
    let r : BridgeView = readied v in
    let six : IsId r.id.system = ap (λ (u : BridgeView). length u.id.system.mac.bytes) (readied_rest v) ∙ was.config.system.bytes in
    let sound : AreSoundPorts r.ports = subst AreSoundPorts (sym (readied_ports v)) (all_later v.ports was.ports) in
    ports_flagged again (up_ports r) r.id.system 1 r.ports r.database p bytes six sound (readied_holds v was) some l (taken_as (is_octets bytes) (by_content (content_in bytes)) l is)
