use Rattle.std.proofs.Common.{◌≡◌, false, rules}
use Rattle.bridge_api.specs.Step.{metric}
use Rattle.bridge_control.specs.Machine.{IsReady}
use Rattle.bridge_control.proofs.Keeping.{kept_step}
use Rattle.bridge_control.proofs.control_plane.ControlPlane.set_metric.Goals as goal

pub invariant_of-self : goal.invariant_of-self
invariant_of-self c =
    let made : c.self.inside.blank ≡ false = search rules in
    let ready : IsReady c.self.inside.machine = search rules in
    kept_step c.set_metric-ended.result (metric c.args.port c.args.metric) c.self.inside.blank c.is_err-self-inside.result c.self.inside.machine c.set_metric-ended.new.self c.give_back.new.kept made ready c.requires.metric c.is_err-self-inside.ensures.value c.set_metric-ended.ensures c.give_back.ensures
