use Rattle.std.proofs.Common.{◌≡◌, ◌+◌, ◌++◌, length, sym, ap, ◌∙◌, subst, arith}
use Rattle.std.proofs.lemmas.Result.{IfOk-weaker}
use Rattle.isis_pdu.specs.declared.kind.Kind.TheVariants as kinds
use Rattle.isis_pdu.specs.Pdu.{LspValue}
use Rattle.isis_pdu.specs.Spelling.{CanWrite, lsp_bytes}
use Rattle.lsdb.specs.Entry.{entry_of}
use Rattle.flooding.specs.Sending.{lsp_in}
use Rattle.bridge_api.specs.Ticking.{lsp_frame}
use Rattle.bridge_api.proofs.Spelled.{lsp_short}
use Rattle.bridge_control.proofs.made.lsp_frame.Goals as goal

pub lsp_length-requires : goal.lsp_length-requires
lsp_length-requires c =
    subst (λ (l : LspValue). CanWrite kinds.Lsp l.tlvs) (sym c.lsp_of-lsp.ensures) c.requires.written

pub append_lsp-requires : goal.append_lsp-requires
append_lsp-requires c =
    subst (λ (l : LspValue). CanWrite kinds.Lsp l.tlvs) (sym c.lsp_of-lsp.ensures) c.requires.written

pub returns : goal.returns
unfolding lsp_frame
returns c =
    let l : LspValue = lsp_in c.args.held.now.id (entry_of c.args.held.now) in
    let size : length (lsp_bytes l) ≡ 27 + length l.tlvs = lsp_short l c.requires.id in
    let tlvs : length c.lsp_of-lsp.result.tlvs.now ≡ length l.tlvs = ap (λ (m : LspValue). length m.tlvs) c.lsp_of-lsp.ensures in
    let bytes = c.in_ok-append_lsp.ensures
    ∙ (ap (λ (m : LspValue). c.in_ok-frame.frame.items ++ lsp_bytes m) c.lsp_of-lsp.ensures
    ∙ c.in_ok-frame.ensures (lsp_bytes l) (omega (arith, size, tlvs, c.lsp_length.ensures.length))) in
    IfOk-weaker c.from_vec.result _ _ (λ frame is. is ∙ bytes) c.from_vec.ensures
