use Rattle.std.proofs.Common.{Ok, arith, sym, ap, ◌∙◌}
use Rattle.itag_frames.specs.Frame.{contents, content_of}
use Rattle.settle_laws.proofs.Frames.{is_control, plain_as}
use Rattle.settle_laws.proofs.lanes.is_plain.Goals as goal

pub returns-in-Ok-Backbone : goal.returns-in-Ok-Backbone
returns-in-Ok-Backbone c =
    sym (ap (λ r. is_control (contents r)) c.in-Ok-Backbone.is ∙ ap (λ f. is_control (Ok (content_of f))) c.in-Ok-Backbone.field-0-is) ∙ plain_as c.args.frame.now (contents c.classify.result) (λ i. omega (arith, c.type_inv.frame i)) c.classify.ensures

pub returns-in-Ok-Control : goal.returns-in-Ok-Control
returns-in-Ok-Control c =
    sym (ap (λ r. is_control (contents r)) c.in-Ok-Control.is ∙ ap (λ f. is_control (Ok (content_of f))) c.in-Ok-Control.field-0-is) ∙ plain_as c.args.frame.now (contents c.classify.result) (λ i. omega (arith, c.type_inv.frame i)) c.classify.ensures

pub returns-in-Err : goal.returns-in-Err
returns-in-Err c =
    sym (ap (λ r. is_control (contents r)) c.in-Err.is) ∙ plain_as c.args.frame.now (contents c.classify.result) (λ i. omega (arith, c.type_inv.frame i)) c.classify.ensures
