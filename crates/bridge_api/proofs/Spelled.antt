-- The frames in which LSPs and sequence numbers PDUs are sent are taken for what they are.
use Rattle.std.proofs.Common.{◌≡◌, ◌≤◌, ◌+◌, ℕ, List, [], length, sym, ap, ◌∙◌, Ok, arith, length-append}
use Rattle.std.specs.List.{AllByRecursion}
use Rattle.std.proofs.lemmas.List.{append-nil}
use Rattle.spb_types.specs.declared.address.Mac.{Mac}
use Rattle.spb_types.specs.declared.address.SystemId.{SystemId}
use Rattle.spb_types.specs.declared.address.LspId.{LspId}
use Rattle.isis_pdu.specs.Pdu.{LspValue, CsnpValue, PsnpValue}
use Rattle.isis_pdu.specs.Grammar.{IsId}
use Rattle.isis_pdu.specs.Spelling.{lsp_bytes, csnp_bytes, psnp_bytes}
use Rattle.spb_tlvs.specs.declared.entries.SnpEntry.{SnpEntry}
use Rattle.spb_tlvs.specs.RoundTrip.{IsEntry}
use Rattle.spb_tlvs.proofs.Numbers.{six}
use Rattle.itag_frames.specs.Frame.{control_bytes}
use Rattle.itag_frames.specs.Classify.{content_in, ControlAgain}
use Rattle.itag_frames.specs.Frame as frames
use Rattle.lsdb.specs.Entry.{Entry}
use Rattle.flooding.specs.Sending.{lsp_in}
use Rattle.flooding.specs.Entries.{IsSendable}
use Rattle.flooding.proofs.SendableEntries.{sent_is_read}
use Rattle.snp_sync.specs.Chunks.{entry_tlvs}
use Rattle.snp_sync.specs.Sized.{IsLspId}
use Rattle.snp_sync.specs.Sending.{CsnpChunk, csnp_for, psnp_for}
use Rattle.snp_sync.proofs.Lengths.{entries_within}
use Rattle.snp_sync.proofs.Said.{csnp_is_read, psnp_is_read}
use Rattle.bridge_api.specs.Parsing.{by_content, by_pdu}
use Rattle.bridge_api.specs.Parsing as parsing
use Rattle.bridge_api.specs.Ticking.{lsp_frame, csnp_frame, psnp_frame}

-- ---- how long the PDUs are

pub lsp_short : (l : LspValue) → IsId l.id.system → length (lsp_bytes l) ≡ 27 + length l.tlvs
unfolding lsp_bytes
lsp_short l six = simp length-append (omega (arith, six))

pub csnp_short : (c : CsnpValue) → IsId c.source → IsId c.start.system → IsId c.end.system → length (csnp_bytes c) ≡ 33 + length c.tlvs
unfolding csnp_bytes
csnp_short c source start end = simp length-append (omega (arith, source, start, end))

pub psnp_short : (s : PsnpValue) → IsId s.source → length (psnp_bytes s) ≡ 17 + length s.tlvs
unfolding psnp_bytes
psnp_short s source = simp length-append (omega (arith, source))

pub chunk_short : (entries_listed : List SnpEntry) → AllByRecursion IsEntry entries_listed → length entries_listed ≤ 90 → 33 + length (entry_tlvs entries_listed) ≤ 1497
chunk_short entries_listed all few = let size = entries_within entries_listed all in omega (arith, size, few)

-- ---- what the frames are taken for

-- a control frame contains its PDU
pub pdu_framed : ControlAgain → (mac : Mac) (pdu : List ℕ) → length mac.bytes ≡ 6 → length pdu ≤ 1497 → content_in (control_bytes mac pdu) ≡ Ok (frames.Pdu pdu)
pdu_framed again mac pdu six short = ap content_in (sym (append-nil (control_bytes mac pdu))) ∙ again mac pdu [] six short

pub lsp_taken : ControlAgain → (system : SystemId) (id : LspId) (e : Entry) → IsId system → IsId id.system → IsSendable id e → by_content (content_in (lsp_frame system (lsp_in id e))) ≡ parsing.lsp (lsp_in id e)
unfolding lsp_frame
lsp_taken again system id e mine named s =
    let l : LspValue = lsp_in id e in
    let size : length (lsp_bytes l) ≡ 27 + length l.tlvs = lsp_short l named in
    ap by_content (pdu_framed again system.mac (lsp_bytes l) mine (omega (arith, size, s.written.short))) ∙ ap by_pdu (sent_is_read id e named s)

pub csnp_taken : ControlAgain → (system : SystemId) (chunk : CsnpChunk) → IsId system → IsLspId chunk.start → IsLspId chunk.end → AllByRecursion IsEntry chunk.entries → length chunk.entries ≤ 90
    → by_content (content_in (csnp_frame system (csnp_for system chunk))) ≡ parsing.csnp (csnp_for system chunk)
unfolding csnp_frame
csnp_taken again system chunk mine start end all few =
    let c : CsnpValue = csnp_for system chunk in
    let size : length (csnp_bytes c) ≡ 33 + length c.tlvs = csnp_short c mine start.system end.system in
    ap by_content (pdu_framed again system.mac (csnp_bytes c) mine (omega (arith, size, chunk_short chunk.entries all few))) ∙ ap by_pdu (csnp_is_read system chunk mine start end)

pub psnp_taken : ControlAgain → (system : SystemId) (chunk : List SnpEntry) → IsId system → AllByRecursion IsEntry chunk → length chunk ≤ 90
    → by_content (content_in (psnp_frame system (psnp_for system chunk))) ≡ parsing.psnp (psnp_for system chunk)
unfolding psnp_frame
psnp_taken again system chunk mine all few =
    let s : PsnpValue = psnp_for system chunk in
    let size : length (psnp_bytes s) ≡ 17 + length s.tlvs = psnp_short s mine in
    ap by_content (pdu_framed again system.mac (psnp_bytes s) mine (omega (arith, size, chunk_short chunk all few))) ∙ ap by_pdu (psnp_is_read system chunk mine)
