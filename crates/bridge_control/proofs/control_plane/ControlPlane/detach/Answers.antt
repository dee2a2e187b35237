use Rattle.std.proofs.Common.{◌≡◌, false, rules}
use Rattle.bridge_api.specs.Step.{detach}
use Rattle.bridge_control.specs.Machine.{IsReady}
use Rattle.bridge_control.proofs.Keeping.{kept_step}
use Rattle.bridge_control.proofs.Telling.{attached_inside}
use Rattle.bridge_control.proofs.control_plane.ControlPlane.detach.Goals as goal

pub detach-ended-requires-clause-attached : goal.detach-ended-requires-clause-attached
detach-ended-requires-clause-attached c =
    let unfailed : c.self.inside.failed ≡ false = search rules in
    attached_inside c.self.inside.blank c.self.inside.failed c.self.inside.machine c.args.self.now c.args.port c.self.view_is unfailed c.requires.attached

pub invariant_of-self : goal.invariant_of-self
invariant_of-self c =
    let made : c.self.inside.blank ≡ false = search rules in
    let ready : IsReady c.self.inside.machine = search rules in
    let unfailed : c.self.inside.failed ≡ false = search rules in
    kept_step c.detach-ended.result (detach c.args.port) c.self.inside.blank c.is_err-self-inside.result c.self.inside.machine c.detach-ended.new.self c.give_back.new.kept made ready
    (attached_inside c.self.inside.blank c.self.inside.failed c.self.inside.machine c.args.self.now c.args.port c.self.view_is unfailed c.requires.attached)
    c.is_err-self-inside.ensures.value c.detach-ended.ensures c.give_back.ensures
