use Rattle.std.proofs.Common.{◌≡◌, false, rules}
use Rattle.bridge_api.specs.Step.{second}
use Rattle.bridge_control.specs.Machine.{IsReady}
use Rattle.bridge_control.proofs.Keeping.{kept_step}
use Rattle.bridge_control.proofs.control_plane.ControlPlane.tick.Goals as goal

pub invariant_of-self : goal.invariant_of-self
invariant_of-self c =
    let made : c.self.inside.blank ≡ false = search rules in
    let ready : IsReady c.self.inside.machine = search rules in
    kept_step c.tick-ended.result (second) c.self.inside.blank c.is_err-self-inside.result c.self.inside.machine c.tick-ended.new.self c.give_back.new.kept made ready tt c.is_err-self-inside.ensures.value c.tick-ended.ensures.after c.give_back.ensures
