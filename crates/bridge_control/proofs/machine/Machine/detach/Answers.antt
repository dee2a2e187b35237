use Rattle.std.proofs.Common.{List, sym, ap, ◌∙◌}
use Rattle.spb_types.specs.declared.service.Attachment.{Attachment}
use Rattle.std.proofs.lemmas.Result.{on_ok_weaker}
use Rattle.forwarding.specs.declared.tenant.Tenant.{Tenant}
use Rattle.forwarding.specs.Detaching.{after_detach}
use Rattle.bridge_api.specs.Step.{detach}
use Rattle.bridge_control.specs.declared.machine.Machine.{Machine}
use Rattle.bridge_control.specs.Attaching.{is_covered}
use Rattle.bridge_control.proofs.Telling.{can_tell_after, detached_after}
use Rattle.bridge_control.proofs.Unsaid.{detached_unsaid}
use Rattle.bridge_control.proofs.machine.Machine.detach.Goals as goal

pub tell-requires : goal.tell-requires
tell-requires c =
    let m : Machine = c.args.self.now in
    can_tell_after m (record m { tenant = c.detach.new.tenant }) (detach c.args.port) (after_detach m.tenant c.args.port).learned c.requires.ready c.requires.attached (ap (λ (t : Tenant). record m { tenant = t }) c.in_ok-detach.ensures.ok)

pub returns-then-is_said : goal.returns-then-is_said
returns-then-is_said c =
    let m : Machine = c.args.self.now in
    detached_unsaid m (record m { tenant = c.detach.new.tenant }) c.args.port c.requires.ready c.requires.attached (ap (λ (attached : List Attachment). is_covered c.args.port attached) (sym c.as_slice.ensures) ∙ (sym c.is_covered-is_said.ensures ∙ c.if-is_said.true)) (ap (λ (t : Tenant). record m { tenant = t }) c.in_ok-detach.ensures.ok)

pub returns : goal.returns
returns c =
    let m : Machine = c.args.self.now in
    on_ok_weaker c.tell.result
    (detached_after m (record m { tenant = c.detach.new.tenant }) c.tell.new.self c.args.port c.requires.ready.current.ports.me (ap (λ (t : Tenant). record m { tenant = t }) c.in_ok-detach.ensures.ok)) c.tell.ensures
