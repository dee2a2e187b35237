use Rattle.std.proofs.Common.{refl}
use Rattle.std.proofs.lemmas.Result.{on_ok_weaker}
use Rattle.bridge_api.specs.Step.{metric}
use Rattle.bridge_tests.proofs.ManyServices.{kept_after}
use Rattle.bridge_tests.proofs.serving.metric_set.Goals as goal

pub returns-clause-kept : goal.returns-clause-kept
returns-clause-kept g c =
    on_ok_weaker c.set_metric.result (kept_after (metric 1 c.args.metric) (g.B.Bridge.shown c.args.bridge.now).view (g.B.Bridge.shown c.set_metric.new.self).view refl) c.set_metric.ensures.view
