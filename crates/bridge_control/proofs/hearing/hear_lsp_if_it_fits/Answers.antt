use Rattle.std.proofs.Common.{Bool, sym, ap, ◌∙◌, subst, Err}
use Rattle.std.specs.Prelude.{if◌then◌else◌}
use Rattle.isis_pdu.specs.Pdu.{lsp_of}
use Rattle.flooding.specs.Hearing.{lsp_rule, claim_of, is_full_for_lsp, hear_lsp_of}
use Rattle.flooding.specs.Placing.{holding, Hears}
use Rattle.flooding.specs.declared.error.FloodError.{FloodError}
use Rattle.flooding.proofs.Claimed.{full_stands}
use Rattle.bridge_control.proofs.hearing.hear_lsp_if_it_fits.Goals as goal

pub returns-in-Err-Full-clause-full : goal.returns-in-Err-Full-clause-full
returns-in-Err-Full-clause-full c =
    let l = lsp_of c.args.lsp.now in
    let old = holding c.args.db.now c.args.own.now in
    let new = holding c.hear_lsp_near.new.db c.hear_lsp_near.new.own in
    let full = subst (λ (e : FloodError). Hears (Err e) (is_full_for_lsp c.args.up c.args.port l old) old (hear_lsp_of c.args.up c.args.port l old) new) c.in-Err-Full.field-0-is c.in-Err-Full.ensures in
    ap (λ (b : Bool). if b then 1 else 0) (sym full.0)

pub returns-in-Err-Full-clause-heard : goal.returns-in-Err-Full-clause-heard
returns-in-Err-Full-clause-heard c =
    let l = lsp_of c.args.lsp.now in
    let old = holding c.args.db.now c.args.own.now in
    let new = holding c.hear_lsp_near.new.db c.hear_lsp_near.new.own in
    let full = subst (λ (e : FloodError). Hears (Err e) (is_full_for_lsp c.args.up c.args.port l old) old (hear_lsp_of c.args.up c.args.port l old) new) c.in-Err-Full.field-0-is c.in-Err-Full.ensures in
    full.1 ∙ sym (full_stands (lsp_rule c.args.up c.args.port l) c.args.up (claim_of l) old full.0)
