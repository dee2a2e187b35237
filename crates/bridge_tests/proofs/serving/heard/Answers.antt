use Rattle.std.proofs.Common.{refl}
use Rattle.std.proofs.lemmas.Result.{on_ok_weaker}
use Rattle.bridge_api.specs.Step.{frame}
use Rattle.bridge_tests.proofs.ManyServices.{kept_after}
use Rattle.bridge_tests.proofs.serving.heard.Goals as goal

pub returns-clause-kept : goal.returns-clause-kept
returns-clause-kept g c =
    on_ok_weaker c.receive.result (kept_after (frame 1 c.args.frame.now) (g.B.Bridge.shown c.args.bridge.now).view (g.B.Bridge.shown c.receive.new.self).view refl) c.receive.ensures.view
