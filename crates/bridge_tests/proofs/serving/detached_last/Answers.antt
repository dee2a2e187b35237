use Rattle.std.proofs.Common.{◌∙◌}
use Rattle.std.proofs.lemmas.Result.{on_ok_weaker}
use Rattle.bridge_api.specs.Step.{detach}
use Rattle.bridge_api.proofs.Certified.{ports_after}
use Rattle.bridge_tests.proofs.ManyServices.{last_attached}
use Rattle.bridge_tests.proofs.serving.detached_last.Goals as goal

pub detach-requires-clause-attached : goal.detach-requires-clause-attached
detach-requires-clause-attached g c = λ unfailed.
    last_attached c.args.count (g.B.Bridge.shown c.args.bridge.now).view c.requires.some c.requires.serving

pub returns-clause-still_port : goal.returns-clause-still_port
returns-clause-still_port g c =
    on_ok_weaker c.detach.result (λ went. ports_after (detach c.args.count) (g.B.Bridge.shown c.args.bridge.now).view (g.B.Bridge.shown c.detach.new.self).view went ∙ c.requires.serving.ports) c.detach.ensures.view
