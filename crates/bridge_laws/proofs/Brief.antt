-- Each frame that a bridge sends is brief, or is the one that came in.
use Rattle.std.proofs.Common.{◌≡◌, inl, inr, ◌≤◌, ◌+◌, ℕ, Bool, true, false, List, [], ◌∷◌, ◌++◌, length, map, filter, refl, sym, ap, ◌∙◌, subst, arith, length-append}
use Rattle.std.specs.Prelude.{if◌then◌else◌}
use Rattle.std.specs.List.{AllByRecursion}
use Rattle.std.specs.FinMap.{entries}
use Rattle.spb_types.specs.declared.address.Mac.{Mac}
use Rattle.spb_types.specs.declared.address.SystemId.{SystemId}
use Rattle.spb_types.specs.declared.address.LspId.{LspId}
use Rattle.spb_types.specs.declared.service.Vid.{Vid}
use Rattle.spb_types.specs.declared.service.Isid.{Isid}
use Rattle.spb_types.specs.declared.ports.PortSet.{PortSet}
use Rattle.spb_types.specs.Ports.{has}
use Rattle.isis_pdu.specs.Pdu.{HelloValue, LspValue, CsnpValue, PsnpValue}
use Rattle.isis_pdu.specs.Grammar.{IsId}
use Rattle.isis_pdu.specs.Spelling.{hello_bytes, lsp_bytes, csnp_bytes, psnp_bytes}
use Rattle.spb_tlvs.specs.declared.entries.SnpEntry.{SnpEntry}
use Rattle.spb_tlvs.specs.RoundTrip.{IsEntry}
use Rattle.spb_tlvs.specs.ThreeWay.{neighbour_bytes}
use Rattle.spb_tlvs.proofs.Numbers.{weaker}
use Rattle.spb_content.proofs.Members.{all_append}
use Rattle.itag_frames.specs.Frame.{control_bytes}
use Rattle.itag_frames.specs.Backbone.{backbone_bytes}
use Rattle.lsdb.specs.Entry.{Entry}
use Rattle.lsdb.specs.Database.{Lsps}
use Rattle.flooding.specs.Sending.{lsp_in, lsps_to_send}
use Rattle.flooding.specs.Entries.{IsSendable, AllEntries}
use Rattle.snp_sync.specs.Chunks.{entry_tlvs}
use Rattle.snp_sync.specs.Sized.{IsLspId, IsSizedEntry}
use Rattle.snp_sync.specs.Sending.{CsnpChunk, csnp_for, psnp_for, csnp_chunks, csnps_of, psnp_chunks, psnps_of}
use Rattle.snp_sync.proofs.Ranges.{of_entries, csnp_chunks_are_short, csnp_chunks_end_at_ids, psnp_chunks_are_short}
use Rattle.snp_sync.proofs.Said.{csnp_entries_are_sized, psnp_entries_are_sized}
use Rattle.adjacency.specs.declared.state.AdjState.{AdjState}
use Rattle.adjacency.specs.declared.state.AdjState.TheVariants.{Down, Initializing, Up}
use Rattle.adjacency.specs.Hearing.{End}
use Rattle.adjacency.specs.Adjacency.{kept_in}
use Rattle.bridge_api.specs.declared.port.BridgePort.{BridgePort}
use Rattle.bridge_api.specs.View.{BridgeView, is_port_up, up_ports}
use Rattle.bridge_api.specs.Customers.{IsCustomerFrame, moved_by_entry, moved_by_receive}
use Rattle.bridge_api.specs.Ticking.{later, readied, hello_at, hello_frame, lsp_frame, csnp_frame, psnp_frame, hellos_at, summaries_at, lsps_at, requests_at, synced_at, sent_at, after_sending_at, sent_from, sent_in_tick}
use Rattle.bridge_api.specs.Step.{second, frame, carrier, metric, attach, detach, customer}
use Rattle.bridge_api.specs.Laws.{IsSoundPort, IsSoundView}
use Rattle.bridge_api.proofs.Changes.{readied_ports, readied_rest}
use Rattle.bridge_api.proofs.Data.{IsSoundData, after_sending_at_keeps}
use Rattle.bridge_api.proofs.DataSteps.{readied_holds}
use Rattle.bridge_api.proofs.Hellos.{hello_short}
use Rattle.bridge_api.proofs.SoundPorts.{AreSoundPorts, all_later}
use Rattle.bridge_api.proofs.Spelled.{lsp_short, csnp_short, psnp_short, chunk_short}
use Rattle.bridge_laws.specs.Brief.{most_frame_bytes, SentIsBrief}
use Rattle.bridge_laws.proofs.Forwarded.{sent_is, Relays, relays, Encapsulates, encapsulates}
use Rattle.bridge_laws.proofs.Frames.{all_mapped, all_kept}

abbrev IsBrief : List ℕ → Type 0
IsBrief bytes = length bytes ≤ most_frame_bytes

abbrev AreBrief : List (ℕ × List ℕ) → Type 0
AreBrief frames = AllByRecursion (λ s. IsBrief s.1) frames

-- ---- control frames

control_length : (sa : Mac) (pdu : List ℕ) → length sa.bytes ≡ 6 → length (control_bytes sa pdu) ≡ 17 + length pdu
control_length sa pdu six = simp length-append (omega (arith, six))

pub kept_short : (state : AdjState) (n : End) → length n.0.mac.bytes ≡ 6 → length (neighbour_bytes (kept_in state n)) ≤ 10
kept_short Down n six = omega arith
kept_short Initializing n six = rw length-append (omega (arith, six))
kept_short Up n six = rw length-append (omega (arith, six))

hello_brief : (system : SystemId) (p : ℕ) (port : BridgePort) → IsId system → IsSoundPort port → IsBrief (hello_frame system p port)
unfolding hello_frame
hello_brief system p port six sound =
    let h : HelloValue = hello_at system p port in
    omega (arith, control_length system.mac (hello_bytes h) six, hello_short h six, kept_short port.adjacency.state (port.adjacency.neighbour, port.adjacency.circuit) sound.neighbour)

lsp_brief : (system : SystemId) (id : LspId) (e : Entry) → IsId system → IsId id.system → IsSendable id e → IsBrief (lsp_frame system (lsp_in id e))
unfolding lsp_frame
lsp_brief system id e six named s =
    let l : LspValue = lsp_in id e in
    omega (arith, control_length system.mac (lsp_bytes l) six, lsp_short l named, s.written.short)

csnp_brief : (system : SystemId) (chunk : CsnpChunk) → IsId system → IsLspId chunk.start → IsLspId chunk.end → AllByRecursion IsEntry chunk.entries → length chunk.entries ≤ 90 → IsBrief (csnp_frame system (csnp_for system chunk))
unfolding csnp_frame
csnp_brief system chunk six start end all few =
    let c : CsnpValue = csnp_for system chunk in
    omega (arith, control_length system.mac (csnp_bytes c) six, csnp_short c six start.system end.system, chunk_short chunk.entries all few)

psnp_brief : (system : SystemId) (chunk : List SnpEntry) → IsId system → AllByRecursion IsEntry chunk → length chunk ≤ 90 → IsBrief (psnp_frame system (psnp_for system chunk))
unfolding psnp_frame
psnp_brief system chunk six all few =
    let s : PsnpValue = psnp_for system chunk in
    omega (arith, control_length system.mac (psnp_bytes s) six, psnp_short s six, chunk_short chunk all few)

-- ---- what is sent at a port

where_so : (b : Bool) (frames : List (ℕ × List ℕ)) → AreBrief frames → AreBrief (if b then frames else [])
where_so true frames all = all
where_so false frames all = tt

both_all : {X : Type 0} (P Q : X → Type 0) (xs : List X) → AllByRecursion P xs → AllByRecursion Q xs → AllByRecursion (λ x. P x × Q x) xs
both_all P Q [] all more = tt
both_all P Q (x ∷ xs) all more = ((all.0, more.0), both_all P Q xs all.1 more.1)

module _ (up : PortSet) (system : SystemId) (p : ℕ) (port : BridgePort) (db : Lsps) (six : IsId system) (sound : IsSoundPort port) (held : IsSoundData up system db) where
  sized_entries : (es : List SnpEntry) → AllByRecursion IsSizedEntry es → AllByRecursion IsEntry es
  sized_entries es all = weaker IsSizedEntry IsEntry es (λ entry s. s.entry) all

  csnps_brief : AreBrief (summaries_at system p port db)
  csnps_brief =
      let chunks : List CsnpChunk = csnp_chunks db in
      let IsChunk : CsnpChunk → Type 0 = λ chunk. (length chunk.entries ≤ 90) × ((IsLspId chunk.start × IsLspId chunk.end) × AllByRecursion IsSizedEntry chunk.entries) in
      let all : AllByRecursion IsChunk chunks = both_all (λ chunk. length chunk.entries ≤ 90) (λ chunk. (IsLspId chunk.start × IsLspId chunk.end) × AllByRecursion IsSizedEntry chunk.entries) chunks (csnp_chunks_are_short db)
      (both_all (λ chunk. IsLspId chunk.start × IsLspId chunk.end) (λ chunk. AllByRecursion IsSizedEntry chunk.entries) chunks (csnp_chunks_end_at_ids db (λ id e at. (held.sized id e at).named)) (csnp_entries_are_sized db held.sized)) in
      where_so port.csnp_due (map (λ c. (p, csnp_frame system c)) (csnps_of system db))
      (all_mapped (λ (c : CsnpValue). (p, csnp_frame system c)) (λ s. IsBrief s.1) (csnps_of system db)
      (all_mapped (csnp_for system) (λ (c : CsnpValue). IsBrief (csnp_frame system c)) chunks
      (weaker IsChunk (λ (chunk : CsnpChunk). IsBrief (csnp_frame system (csnp_for system chunk))) chunks (λ chunk h. csnp_brief system chunk six h.1.0.0 h.1.0.1 (sized_entries chunk.entries h.1.1) h.0) all)))

  lsps_brief : AreBrief (lsps_at system p db)
  lsps_brief =
      let each_one : AllEntries (λ id e. IsBrief (lsp_frame system (lsp_in id e))) db = λ id e at. lsp_brief system id e six (held.sized id e at).named.system (held.sendable id e at) in
      all_mapped (λ (l : LspValue). (p, lsp_frame system l)) (λ s. IsBrief s.1) (lsps_to_send db p)
      (all_mapped (λ (e : LspId × Entry). lsp_in e.0 e.1) (λ (l : LspValue). IsBrief (lsp_frame system l)) (filter (λ (e : LspId × Entry). has e.1.srm p) (entries db))
      (all_kept (λ (e : LspId × Entry). IsBrief (lsp_frame system (lsp_in e.0 e.1))) (λ (e : LspId × Entry). has e.1.srm p) (entries db) (of_entries (λ id e. IsBrief (lsp_frame system (lsp_in id e))) db each_one)))

  requests_brief : AreBrief (requests_at system p db)
  requests_brief =
      let chunks : List (List SnpEntry) = psnp_chunks p db in
      let IsChunk : List SnpEntry → Type 0 = λ chunk. ((1 ≤ length chunk) × (length chunk ≤ 90)) × AllByRecursion IsSizedEntry chunk in
      let all : AllByRecursion IsChunk chunks = both_all (λ chunk. (1 ≤ length chunk) × (length chunk ≤ 90)) (AllByRecursion IsSizedEntry) chunks (psnp_chunks_are_short p db) (psnp_entries_are_sized p db held.sized) in
      all_mapped (λ (s : PsnpValue). (p, psnp_frame system s)) (λ s. IsBrief s.1) (psnps_of system p db)
      (all_mapped (psnp_for system) (λ (s : PsnpValue). IsBrief (psnp_frame system s)) chunks
      (weaker IsChunk (λ (chunk : List SnpEntry). IsBrief (psnp_frame system (psnp_for system chunk))) chunks (λ chunk h. psnp_brief system chunk six (sized_entries chunk h.1) h.0.1) all))

  port_brief : AreBrief (sent_at system p port db)
  port_brief =
      all_append (λ s. IsBrief s.1) (hellos_at system p port) (synced_at system p port db)
      (where_so port.adjacency.carrier ((p, hello_frame system p port) ∷ []) (hello_brief system p port six sound, tt))
      (where_so (is_port_up port) (summaries_at system p port db ++ lsps_at system p db ++ requests_at system p db)
      (all_append (λ s. IsBrief s.1) (summaries_at system p port db ++ lsps_at system p db) (requests_at system p db)
      (all_append (λ s. IsBrief s.1) (summaries_at system p port db) (lsps_at system p db) csnps_brief lsps_brief) requests_brief))

-- and at these ports, of which the first has number p
ports_brief : (up : PortSet) (system : SystemId) (p : ℕ) (ports : List BridgePort) (db : Lsps) → IsId system → AreSoundPorts ports → IsSoundData up system db → AreBrief (sent_from system p ports db)
ports_brief up system p [] db six sound held = tt
ports_brief up system p (port ∷ ports) db six sound held =
    all_append (λ s. IsBrief s.1) (sent_at system p port db) (sent_from system (p + 1) ports (after_sending_at p port db))
    (port_brief up system p port db six sound.0 held)
    (ports_brief up system (p + 1) ports (after_sending_at p port db) six sound.1 (after_sending_at_keeps up system p port db held))

second_brief : (v : BridgeView) → IsSoundView v → AreBrief (sent_in_tick v)
unfolding sent_in_tick
second_brief v was =
    let r : BridgeView = readied v in
    let six : IsId r.id.system = ap (λ (u : BridgeView). length u.id.system.mac.bytes) (readied_rest v) ∙ was.config.system.bytes in
    ports_brief (up_ports r) r.id.system 1 r.ports r.database six (subst AreSoundPorts (sym (readied_ports v)) (all_later v.ports was.ports)) (readied_holds v was)

-- ---- frames that carry a customer's

backbone_length : (da sa : Mac) (vid : Vid) (isid : Isid) (f : List ℕ) → length da.bytes ≡ 6 → length sa.bytes ≡ 6 → length (backbone_bytes da sa vid isid f) ≡ 22 + length f
backbone_length da sa vid isid f to from = simp length-append (omega (arith, to, from))

encapsulated_brief : (v : BridgeView) (q : ℕ) (f bytes : List ℕ) → IsCustomerFrame f → Encapsulates v q f bytes → IsBrief bytes
encapsulated_brief v q f bytes whole e =
    subst IsBrief (sym e.is) (omega (arith, whole.high, backbone_length e.da v.id.system.mac e.attachment.vid e.attachment.isid f e.can.to e.can.from))

pub sent_is_brief : SentIsBrief
sent_is_brief second v p bytes is was some = inl (sent_is IsBrief (sent_in_tick v) p bytes (second_brief v was) some)
sent_is_brief (frame q f) v p bytes is was some = inr (sent_is (Relays f) (moved_by_receive q f v).wire p bytes (relays q f v) some).same
sent_is_brief (carrier q on) v p bytes is was some = absurd some
sent_is_brief (metric q m) v p bytes is was some = absurd some
sent_is_brief (attach a) v p bytes is was some = absurd some
sent_is_brief (detach q) v p bytes is was some = absurd some
sent_is_brief (customer q f) v p bytes is was some =
    inl (encapsulated_brief v q f bytes is.1 (sent_is (Encapsulates v q f) (moved_by_entry q f v).wire p bytes (encapsulates q f v is.1 was) some))
