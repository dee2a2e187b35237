use Rattle.std.proofs.Common.{◌≡◌, false, rules}
use Rattle.bridge_api.specs.Step.{carrier}
use Rattle.bridge_control.specs.Machine.{IsReady}
use Rattle.bridge_control.proofs.Keeping.{kept_step}
use Rattle.bridge_control.proofs.control_plane.ControlPlane.carrier.Goals as goal

pub invariant_of-self : goal.invariant_of-self
invariant_of-self c =
    let made : c.self.inside.blank ≡ false = search rules in
    let ready : IsReady c.self.inside.machine = search rules in
    kept_step c.carrier-ended.result (carrier c.args.port c.args.on) c.self.inside.blank c.is_err-self-inside.result c.self.inside.machine c.carrier-ended.new.self c.give_back.new.kept made ready tt c.is_err-self-inside.ensures.value c.carrier-ended.ensures c.give_back.ensures
