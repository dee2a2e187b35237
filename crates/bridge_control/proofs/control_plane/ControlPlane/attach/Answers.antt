use Rattle.std.proofs.Common.{◌≡◌, false, rules}
use Rattle.bridge_api.specs.Services.{attachment_of}
use Rattle.bridge_api.specs.Step.{attach}
use Rattle.bridge_control.specs.Machine.{IsReady}
use Rattle.bridge_control.proofs.Keeping.{kept_step}
use Rattle.bridge_control.proofs.Telling.{can_inside}
use Rattle.bridge_control.proofs.control_plane.ControlPlane.attach.Goals as goal

pub attach-ended-requires-clause-can : goal.attach-ended-requires-clause-can
attach-ended-requires-clause-can c =
    let unfailed : c.self.inside.failed ≡ false = search rules in
    can_inside c.self.inside.blank c.self.inside.failed c.self.inside.machine c.args.self.now (attachment_of c.args.port c.args.isid c.args.vid c.args.mode) c.self.view_is unfailed c.requires.can

pub invariant_of-self : goal.invariant_of-self
invariant_of-self c =
    let made : c.self.inside.blank ≡ false = search rules in
    let ready : IsReady c.self.inside.machine = search rules in
    let unfailed : c.self.inside.failed ≡ false = search rules in
    kept_step c.attach-ended.result (attach (attachment_of c.args.port c.args.isid c.args.vid c.args.mode)) c.self.inside.blank c.is_err-self-inside.result c.self.inside.machine c.attach-ended.new.self c.give_back.new.kept made ready
    (can_inside c.self.inside.blank c.self.inside.failed c.self.inside.machine c.args.self.now (attachment_of c.args.port c.args.isid c.args.vid c.args.mode) c.self.view_is unfailed c.requires.can)
    c.is_err-self-inside.ensures.value c.attach-ended.ensures c.give_back.ensures
