use Rattle.std.proofs.Common.{◌≡◌, ◌++◌, ◌∷◌, [], ℕ, List, length, sym, ap, rules}
use Rattle.isis_pdu.specs.declared.kind.Kind.TheVariants as kinds
use Rattle.isis_pdu.specs.Bytes.{u16_bytes}
use Rattle.isis_pdu.specs.Spelling.{zeros, common_header}
use Rattle.isis_pdu.proofs.Written.{six}
use Rattle.isis_pdu.proofs.writing.psnp_head.Goals as goal

pub returns : goal.returns
returns c =
    let mac : List ℕ = c.args.source.mac.bytes in
    let size : length mac ≡ 6 = search rules in
    ap (λ (bytes : List ℕ). common_header zeros kinds.Psnp ++ u16_bytes c.args.len ++ (bytes ++ 0 ∷ [])) (sym (six mac size))
