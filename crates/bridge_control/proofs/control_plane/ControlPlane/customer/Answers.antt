use Rattle.std.proofs.Common.{◌≡◌, false, rules}
use Rattle.bridge_api.specs.Step.{customer}
use Rattle.bridge_control.specs.Machine.{IsReady}
use Rattle.bridge_control.proofs.Keeping.{kept_with}
use Rattle.bridge_control.proofs.Telling.{sending_inside}
use Rattle.bridge_control.proofs.control_plane.ControlPlane.customer.Goals as goal

pub invariant_of-self : goal.invariant_of-self
invariant_of-self c =
    let made : c.self.inside.blank ≡ false = search rules in
    let ready : IsReady c.self.inside.machine = search rules in
    let unfailed : c.self.inside.failed ≡ false = search rules in
    kept_with c.customer-ended.result (customer c.args.port c.args.frame.now) c.self.inside.blank c.is_err-self-inside.result c.self.inside.machine c.customer-ended.new.self c.customer-ended.new.kept c.give_back.new.kept made ready
    (sending_inside c.self.inside.blank c.self.inside.failed c.self.inside.machine c.args.self.now c.args.port c.self.view_is unfailed c.requires.sending, c.requires.frame)
    c.is_err-self-inside.ensures.value c.customer-ended.ensures.after c.customer-ended.ensures.kept c.give_back.ensures
