use Rattle.std.proofs.Common.{◌++◌, [], ◌∷◌, ℕ, List, ap, ◌∙◌, append_assoc}
use Rattle.isis_pdu.specs.declared.kind.Kind.TheVariants as kinds
use Rattle.spb_types.specs.Bytes.{lsp_id_bytes}
use Rattle.isis_pdu.specs.Bytes.{u16_bytes, u32_bytes}
use Rattle.isis_pdu.specs.Spelling.{zeros, common_header, lsp_bytes}
use Rattle.isis_pdu.proofs.writing.append_lsp.Goals as goal

pub returns : goal.returns
unfolding lsp_bytes
returns c =
    let l = c.args.lsp.now in
    let out : List ℕ = c.args.out.now.items in
    let tlvs : List ℕ = l.tlvs.now in
    let head = λ (n : ℕ). common_header zeros kinds.Lsp ++ u16_bytes n ++ u16_bytes l.lifetime ++ lsp_id_bytes l.id ++ u32_bytes l.seq ++ u16_bytes l.sum ++ l.flags ∷ [] in
    c.in_ok-extend_from_slice-2.ensures.items
    ∙ (ap (λ (bytes : List ℕ). bytes ++ tlvs) c.in_ok-extend_from_slice.ensures.items
    ∙ (append_assoc out c.lsp_head-head.result tlvs
    ∙ ap (λ (bytes : List ℕ). out ++ (bytes ++ tlvs)) (c.lsp_head-head.ensures ∙ ap head c.lsp_length-len.ensures.length)))
