use Rattle.std.proofs.Common.{◌≡◌, false, rules}
use Rattle.bridge_api.specs.Step.{frame}
use Rattle.bridge_control.specs.Machine.{IsReady}
use Rattle.bridge_control.proofs.Keeping.{kept_with}
use Rattle.bridge_control.proofs.control_plane.ControlPlane.receive.Goals as goal

pub invariant_of-self : goal.invariant_of-self
invariant_of-self c =
    let made : c.self.inside.blank ≡ false = search rules in
    let ready : IsReady c.self.inside.machine = search rules in
    kept_with c.receive-ended.result (frame c.args.port c.args.frame.now) c.self.inside.blank c.is_err-self-inside.result c.self.inside.machine c.receive-ended.new.self c.receive-ended.new.kept c.give_back.new.kept made ready tt c.is_err-self-inside.ensures.value c.receive-ended.ensures.after c.receive-ended.ensures.kept c.give_back.ensures
