use Rattle.std.proofs.Common.{◌≡◌, ◌+◌, sym, subst}
use Rattle.std.proofs.lemmas.Result.{on_ok_weaker}
use Rattle.spb_types.specs.declared.service.Attachment.{Attachment}
use Rattle.bridge_api.specs.View.{BridgeView}
use Rattle.bridge_api.specs.Services.{CanAttach}
use Rattle.bridge_api.specs.Step.{attach, step}
use Rattle.bridge_tests.proofs.ManyServices.{can_attach, serves_one_more}
use Rattle.bridge_tests.proofs.serving.attached_next.Goals as goal

pub attach-requires-clause-can : goal.attach-requires-clause-can
attach-requires-clause-can g c = λ unfailed.
    let v : BridgeView = (g.B.Bridge.shown c.args.bridge.now).view in
    subst (λ (a : Attachment). CanAttach v a) (sym c.service-next.ensures) (can_attach c.args.count v c.requires.few c.requires.serving)

pub returns-clause-serving : goal.returns-clause-serving
returns-clause-serving g c =
    let v : BridgeView = (g.B.Bridge.shown c.args.bridge.now).view in
    let w : BridgeView = (g.B.Bridge.shown c.attach.new.self).view in
    on_ok_weaker c.attach.result (λ went. serves_one_more c.args.count v w c.requires.serving (subst (λ (a : Attachment). w ≡ step (attach a) v) c.service-next.ensures went)) c.attach.ensures.view
