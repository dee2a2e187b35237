-- The LSPs and PSNPs that a bridge sends are heard as what they are.
use Rattle.std.proofs.Common.{◌≡◌, ◌≤◌, ◌<◌, ◌+◌, ◌*◌, ℕ, List, [], ◌∷◌, ◌++◌, length, map, refl, sym, ap, ◌∙◌, subst, arith, lit≤}
use Rattle.std.specs.List.{AllByRecursion, flat_map}
use Rattle.spb_types.specs.declared.address.BridgeId.{BridgeId}
use Rattle.spb_types.specs.declared.address.SystemId.{SystemId}
use Rattle.spb_types.specs.declared.address.LspId.{LspId}
use Rattle.spb_types.specs.declared.drop_reason.DropReason.TheVariants as drop
use Rattle.spb_types.specs.Bytes.{lsp_id_bytes}
use Rattle.isis_pdu.specs.declared.kind.Kind.TheVariants as kinds
use Rattle.isis_pdu.specs.Bytes.{u16_bytes, u32_bytes}
use Rattle.isis_pdu.specs.Grammar.{IsId, IsBytes}
use Rattle.isis_pdu.specs.Pdu.{LspValue, PsnpValue}
use Rattle.isis_pdu.specs.Spelling.{zeros, common_header, length_bytes, source_bytes, lsp_bytes, psnp_bytes}
use Rattle.spb_tlvs.specs.declared.entries.SnpEntry.{SnpEntry}
use Rattle.spb_tlvs.specs.Entry.{entry_bytes, entries_value}
use Rattle.spb_tlvs.specs.Number.{two, four}
use Rattle.spb_tlvs.specs.RoundTrip.{IsEntry}
use Rattle.spb_tlvs.specs.Tlv.{tlv}
use Rattle.spb_tlvs.proofs.EntryLaws.{entry_len}
use Rattle.spb_tlvs.proofs.Numbers.{length_of_joined, weaker}
use Rattle.itag_frames.specs.Classify.{content_in, ControlAgain}
use Rattle.lsdb.specs.Entry.{Entry}
use Rattle.lsdb.specs.Database.{Lsps}
use Rattle.flooding.specs.Own.{flags_in, tlvs_of_body}
use Rattle.flooding.specs.Sending.{lsp_in}
use Rattle.flooding.specs.Entries.{IsSendable}
use Rattle.snp_sync.specs.Chunks.{chunks, entry_tlvs}
use Rattle.snp_sync.specs.Sized.{IsLspId, IsSized, IsSizedEntry, AreSized}
use Rattle.snp_sync.specs.Sending.{psnp_for, psnp_chunks}
use Rattle.snp_sync.proofs.Ranges.{sized_psnp_chunks, psnp_chunks_are_short}
use Rattle.snp_sync.proofs.Said.{of_psnp_chunks, psnp_entries_are_sized}
use Rattle.spb_content.proofs.Octets.{small_joined, two_small, four_small, tlv_small}
use Rattle.bridge_api.specs.View.{BridgeView}
use Rattle.bridge_api.specs.Parsing.{parsed, is_octets, by_content}
use Rattle.bridge_api.specs.Parsing as parsing
use Rattle.bridge_api.specs.Ticking.{readied, lsp_frame, psnp_frame}
use Rattle.bridge_api.specs.Laws.{IsSoundView}
use Rattle.bridge_api.specs.Duties.{LspsAreHeard, RequestsAreHeard}
use Rattle.bridge_api.proofs.Changes.{readied_rest, when_true}
use Rattle.bridge_api.proofs.Data.{Holds}
use Rattle.bridge_api.proofs.DataSteps.{readied_holds}
use Rattle.bridge_api.proofs.Hellos.{control_small}
use Rattle.bridge_api.proofs.Octets.{AreSmall, small_octets, octets_small, bytes_small, small_both}
use Rattle.bridge_api.proofs.Spelled.{chunk_short, lsp_taken, psnp_taken}

-- ---- fields

u16_small : (n : ℕ) → n < 65536 → AreSmall (u16_bytes n)
u16_small n fits = (omega (arith, fits), (omega arith, tt))

u32_small : (n : ℕ) → n < 4294967296 → AreSmall (u32_bytes n)
u32_small n fits = (omega (arith, fits), (omega arith, (omega arith, (omega arith, tt))))

id_small : (id : LspId) → IsLspId id → AreSmall (lsp_id_bytes id)
id_small id is = small_both id.system.mac.bytes (id.pseudonode ∷ id.number ∷ []) (bytes_small id.system.mac.bytes is.bytes.0) (is.bytes.1, (is.bytes.2, tt))

-- ---- an LSP

body_small : (body : List ℕ) → AreSmall body → (flags_in body < 256) × AreSmall (tlvs_of_body body)
body_small [] small = (omega arith, tt)
body_small (flags ∷ tlvs) small = (small.0, small.1)

lsp_small : (system : SystemId) (id : LspId) (e : Entry) → IsBytes system.mac.bytes → IsSendable id e → IsSized id e → IsBytes e.body → AreSmall (lsp_frame system (lsp_in id e))
unfolding lsp_frame lsp_bytes
lsp_small system id e from sendable sized octets =
    let l : LspValue = lsp_in id e in
    let body = body_small e.body (bytes_small e.body octets) in
    let start : List ℕ = common_header zeros kinds.Lsp in
    let long : List ℕ = start ++ length_bytes kinds.Lsp l.tlvs in
    let timed : List ℕ = long ++ u16_bytes l.lifetime in
    let named : List ℕ = timed ++ lsp_id_bytes l.id in
    let numbered : List ℕ = named ++ u32_bytes l.seq in
    let summed : List ℕ = numbered ++ u16_bytes l.sum in
    let flagged : List ℕ = summed ++ l.flags ∷ [] in
    let long_small : AreSmall long = small_both start (length_bytes kinds.Lsp l.tlvs) (small_octets start refl) (u16_small (27 + length l.tlvs) (omega (arith, sendable.written.short))) in
    let timed_small : AreSmall timed = small_both long (u16_bytes l.lifetime) long_small (u16_small l.lifetime sized.entry.lifetime) in
    let named_small : AreSmall named = small_both timed (lsp_id_bytes l.id) timed_small (id_small id sized.named) in
    let numbered_small : AreSmall numbered = small_both named (u32_bytes l.seq) named_small (u32_small l.seq sized.entry.seq) in
    let summed_small : AreSmall summed = small_both numbered (u16_bytes l.sum) numbered_small (u16_small l.sum sized.entry.sum) in
    let flagged_small : AreSmall flagged = small_both summed (l.flags ∷ []) summed_small (body.0, tt) in
    control_small system.mac (lsp_bytes l) (bytes_small system.mac.bytes from) (small_both flagged l.tlvs flagged_small body.1)

-- an LSP of octets is heard as itself
pub lsp_heard : ControlAgain → (system : SystemId) (id : LspId) (e : Entry) → IsId system → IsBytes system.mac.bytes → IsSendable id e → IsSized id e → IsBytes e.body → parsed (lsp_frame system (lsp_in id e)) ≡ parsing.lsp (lsp_in id e)
unfolding parsed
lsp_heard again system id e six from sendable sized octets =
    let bytes : List ℕ = lsp_frame system (lsp_in id e) in
    when_true (is_octets bytes) (by_content (content_in bytes)) (parsing.dropped drop.Frame) (octets_small bytes (lsp_small system id e from sendable sized octets))
    ∙ lsp_taken again system id e six sized.named.system sendable

-- ---- a PSNP

entry_small : (e : SnpEntry) → IsSizedEntry e → AreSmall (entry_bytes e)
entry_small e is =
    let timed : List ℕ = two e.lifetime in
    let named : List ℕ = timed ++ lsp_id_bytes e.id in
    let numbered : List ℕ = named ++ four e.seq in
    small_both numbered (two e.sum) (small_both named (four e.seq) (small_both timed (lsp_id_bytes e.id) (two_small e.lifetime) (id_small e.id is.named)) (four_small e.seq)) (two_small e.sum)

-- at most 15 entries
few_small : (es : List SnpEntry) → length es ≤ 15 → AllByRecursion IsSizedEntry es → AreSmall (tlv 9 (entries_value es))
few_small es few all =
    let size : length (entries_value es) ≡ 16 * length es = length_of_joined entry_bytes 16 es (weaker IsSizedEntry (λ (e : SnpEntry). length (entry_bytes e) ≡ 16) es (λ e is. entry_len e is.entry) all) in
    tlv_small 9 (entries_value es) (omega arith) (omega (arith, size, few)) (small_joined entry_bytes es (weaker IsSizedEntry (λ (e : SnpEntry). AreSmall (entry_bytes e)) es entry_small all))

chunks_small : (ps : List (List SnpEntry)) → AllByRecursion (λ p. (1 ≤ length p) × (length p ≤ 15)) ps → AllByRecursion (AllByRecursion IsSizedEntry) ps → AreSmall (flat_map (λ chunk. tlv 9 (entries_value chunk)) ps)
chunks_small [] short all = tt
chunks_small (p ∷ ps) short all = small_both (tlv 9 (entries_value p)) (flat_map (λ chunk. tlv 9 (entries_value chunk)) ps) (few_small p short.0.1 all.0) (chunks_small ps short.1 all.1)

entries_small : (es : List SnpEntry) → AllByRecursion IsSizedEntry es → AreSmall (entry_tlvs es)
unfolding entry_tlvs
entries_small es all = chunks_small (chunks 15 es) (sized_psnp_chunks 15 es (lit≤ tt)) (of_psnp_chunks IsSizedEntry 15 es (lit≤ tt) all)

psnp_small : (system : SystemId) (chunk : List SnpEntry) → IsBytes system.mac.bytes → length chunk ≤ 90 → AllByRecursion IsSizedEntry chunk → AreSmall (psnp_frame system (psnp_for system chunk))
unfolding psnp_frame psnp_bytes
psnp_small system chunk from few all =
    let s : PsnpValue = psnp_for system chunk in
    let own : AreSmall system.mac.bytes = bytes_small system.mac.bytes from in
    let short = chunk_short chunk (weaker IsSizedEntry IsEntry chunk (λ e is. is.entry) all) few in
    let start : List ℕ = common_header zeros kinds.Psnp in
    let long : List ℕ = start ++ length_bytes kinds.Psnp s.tlvs in
    let named : List ℕ = long ++ source_bytes zeros system in
    let long_small : AreSmall long = small_both start (length_bytes kinds.Psnp s.tlvs) (small_octets start refl) (u16_small (17 + length s.tlvs) (omega (arith, short))) in
    let named_small : AreSmall named = small_both long (source_bytes zeros system) long_small (small_both system.mac.bytes (0 ∷ []) own (omega arith, tt)) in
    control_small system.mac (psnp_bytes s) own (small_both named s.tlvs named_small (entries_small chunk all))

pub psnp_heard : ControlAgain → (system : SystemId) (chunk : List SnpEntry) → IsId system → IsBytes system.mac.bytes → length chunk ≤ 90 → AllByRecursion IsSizedEntry chunk
    → parsed (psnp_frame system (psnp_for system chunk)) ≡ parsing.psnp (psnp_for system chunk)
unfolding parsed
psnp_heard again system chunk six from few all =
    let bytes : List ℕ = psnp_frame system (psnp_for system chunk) in
    when_true (is_octets bytes) (by_content (content_in bytes)) (parsing.dropped drop.Frame) (octets_small bytes (psnp_small system chunk from few all))
    ∙ psnp_taken again system chunk six (weaker IsSizedEntry IsEntry chunk (λ e is. is.entry) all) few

-- ---- what a bridge sends

ready_six : (v : BridgeView) → IsSoundView v → IsId (readied v).id.system
ready_six v was = subst (λ (id : BridgeId). IsId id.system) (sym (ap (λ (u : BridgeView). u.id) (readied_rest v))) was.config.system.bytes

ready_octets : (v : BridgeView) → IsSoundView v → IsBytes (readied v).id.system.mac.bytes
ready_octets v was = subst (λ (id : BridgeId). IsBytes id.system.mac.bytes) (sym (ap (λ (u : BridgeView). u.id) (readied_rest v))) was.config.system.octets

pub lsps_are_heard : ControlAgain → LspsAreHeard
lsps_are_heard again v id e was held =
    let u : BridgeView = readied v in
    let holds : Holds u = readied_holds v was in
    lsp_heard again u.id.system id e (ready_six v was) (ready_octets v was) (holds.sendable id e held) (holds.sized id e held) (holds.octets id e held)

each_heard : ControlAgain → (system : SystemId) (ps : List (List SnpEntry)) → IsId system → IsBytes system.mac.bytes → AllByRecursion (λ p. (1 ≤ length p) × (length p ≤ 90)) ps → AllByRecursion (AllByRecursion IsSizedEntry) ps
    → AllByRecursion (λ s. parsed (psnp_frame system s) ≡ parsing.psnp s) (map (psnp_for system) ps)
each_heard again system [] six from short all = tt
each_heard again system (p ∷ ps) six from short all = (psnp_heard again system p six from short.0.1 all.0, each_heard again system ps six from short.1 all.1)

pub requests_are_heard : ControlAgain → RequestsAreHeard
requests_are_heard again v p was =
    let u : BridgeView = readied v in
    let db : Lsps = u.database in
    let sized : AreSized db = (readied_holds v was).sized in
    each_heard again u.id.system (psnp_chunks p db) (ready_six v was) (ready_octets v was) (psnp_chunks_are_short p db) (psnp_entries_are_sized p db sized)
