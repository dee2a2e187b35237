use Rattle.std.proofs.Common.{◌≡◌, ◌+◌, ◌++◌, ℕ, List, length, ap, ◌∙◌, arith, append_assoc}
use Rattle.isis_pdu.specs.declared.kind.Kind.TheVariants as kinds
use Rattle.isis_pdu.specs.Bytes.{u16_bytes}
use Rattle.isis_pdu.specs.Spelling.{zeros, common_header, source_bytes, psnp_bytes}
use Rattle.isis_pdu.proofs.writing.append_psnp_head.Goals as goal

pub returns : goal.returns
unfolding psnp_bytes
returns c = λ tlvs size.
    let out : List ℕ = c.args.out.now.items in
    let head = λ (n : ℕ). common_header zeros kinds.Psnp ++ u16_bytes n ++ source_bytes zeros c.args.source.now in
    let len : c.from.result + c.args.tlvs_len ≡ 17 + length tlvs = omega (arith, c.from.ensures, c.fixed_length.ensures, size) in
    ap (λ (bytes : List ℕ). bytes ++ tlvs) c.in_ok-extend_from_slice.ensures.items
    ∙ (append_assoc out c.psnp_head.result tlvs
    ∙ ap (λ (bytes : List ℕ). out ++ (bytes ++ tlvs)) (c.psnp_head.ensures ∙ ap head len))
