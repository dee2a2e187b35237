use Rattle.std.proofs.Common.{◌≡◌, Ok, IfOk, arith, sym, ap, subst, ◌∙◌, Bool}
use Rattle.itag_frames.specs.Frame.{contents, content_of}
use Rattle.bridge_api.specs.Parsing.{by_content}
use Rattle.network_rounds.specs.Premises.{is_lasting}
use Rattle.settle_laws.proofs.Frames.{parsed_as}
use Rattle.settle_laws.proofs.lanes.is_lasting.Goals as goal

pub returns-in-Ok-Backbone : goal.returns-in-Ok-Backbone
returns-in-Ok-Backbone c =
    sym (ap (λ r. is_lasting c.args.most (by_content (contents r))) c.in-Ok-Backbone.is ∙ ap (λ f. is_lasting c.args.most (by_content (Ok (content_of f)))) c.in-Ok-Backbone.field-0-is)
    ∙ ap (is_lasting c.args.most) (parsed_as c.args.frame.now (contents c.classify.result) (λ i. omega (arith, c.type_inv.frame i)) c.classify.ensures)

pub returns-in-Ok-Control : goal.returns-in-Ok-Control
returns-in-Ok-Control c =
    subst (λ (b : Bool). IfOk c.is_pdu_lasting.result (λ holds. holds ≡ b))
    (sym (ap (λ r. is_lasting c.args.most (by_content (contents r))) c.in-Ok-Control.is ∙ ap (λ f. is_lasting c.args.most (by_content (Ok (content_of f)))) c.in-Ok-Control.field-0-is)
    ∙ ap (is_lasting c.args.most) (parsed_as c.args.frame.now (contents c.classify.result) (λ i. omega (arith, c.type_inv.frame i)) c.classify.ensures))
    c.is_pdu_lasting.ensures

pub returns-in-Err : goal.returns-in-Err
returns-in-Err c =
    sym (ap (λ r. is_lasting c.args.most (by_content (contents r))) c.in-Err.is)
    ∙ ap (is_lasting c.args.most) (parsed_as c.args.frame.now (contents c.classify.result) (λ i. omega (arith, c.type_inv.frame i)) c.classify.ensures)
