use Rattle.std.proofs.Common.{List, [], ◌∷◌, ◌++◌, sym, ap, ◌∙◌}
use Rattle.std.proofs.lemmas.Result.{on_ok_weaker}
use Rattle.spb_types.specs.declared.service.Attachment.{Attachment}
use Rattle.bridge_api.specs.Step.{attach}
use Rattle.bridge_control.specs.Attaching.{is_done_beside}
use Rattle.bridge_control.proofs.Telling.{machine_with, can_tell_after, after_telling}
use Rattle.bridge_control.proofs.Unsaid.{attached_unsaid}
use Rattle.bridge_control.proofs.machine.Machine.attach.Goals as goal

pub tell-requires : goal.tell-requires
tell-requires c =
    let m = c.args.self.now in
    let learned = m.tenant.learned in
    can_tell_after m (machine_with m c.push.new.self learned) (attach c.args.attachment) learned c.requires.ready c.requires.can (ap (λ (attached : List Attachment). machine_with m attached learned) c.in_ok-push.ensures.ok)

pub returns-then-is_said : goal.returns-then-is_said
returns-then-is_said c =
    let m = c.args.self.now in
    let learned = m.tenant.learned in
    attached_unsaid m (machine_with m c.push.new.self learned) c.args.attachment c.requires.ready c.requires.can (ap (λ (attached : List Attachment). is_done_beside attached c.args.attachment) (sym c.as_slice.ensures) ∙ (sym c.is_done_beside-is_said.ensures ∙ c.if-is_said.true)) (ap (λ (attached : List Attachment). machine_with m attached learned) c.in_ok-push.ensures.ok)

pub returns : goal.returns
returns c =
    let m = c.args.self.now in
    let learned = m.tenant.learned in
    on_ok_weaker c.tell.result
    (after_telling m (machine_with m c.push.new.self learned) c.tell.new.self (m.tenant.attached ++ c.args.attachment ∷ []) learned (ap (λ (attached : List Attachment). machine_with m attached learned) c.in_ok-push.ensures.ok)) c.tell.ensures
