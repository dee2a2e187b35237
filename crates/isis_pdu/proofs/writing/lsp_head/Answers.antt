use Rattle.std.proofs.Common.{◌≡◌, ◌++◌, ◌∷◌, [], ℕ, List, length, sym, ap, rules}
use Rattle.isis_pdu.specs.declared.kind.Kind.TheVariants as kinds
use Rattle.isis_pdu.specs.Bytes.{u16_bytes, u32_bytes}
use Rattle.isis_pdu.specs.Spelling.{zeros, common_header}
use Rattle.isis_pdu.proofs.Written.{six}
use Rattle.isis_pdu.proofs.writing.lsp_head.Goals as goal

pub returns : goal.returns
returns c =
    let a = c.args in
    let mac : List ℕ = a.id.system.mac.bytes in
    let size : length mac ≡ 6 = search rules in
    ap (λ (bytes : List ℕ). common_header zeros kinds.Lsp ++ u16_bytes a.len ++ u16_bytes a.lifetime ++ (bytes ++ a.id.pseudonode ∷ a.id.number ∷ []) ++ u32_bytes a.seq ++ u16_bytes a.sum ++ a.flags ∷ []) (sym (six mac size))
