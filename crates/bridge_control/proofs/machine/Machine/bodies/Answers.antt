use Rattle.std.proofs.Common.{◌≡◌, IfOk, List, ℕ, Option, sym, ap, ◌∙◌, subst}
use Rattle.spb_types.specs.declared.service.Attachment.{Attachment}
use Rattle.spb_content.specs.Local.{IsLocal}
use Rattle.bridge_api.specs.Own.{local_of, bodies_of}
use Rattle.bridge_api.proofs.Changes.{attached_to}
use Rattle.bridge_control.specs.Machine.{view_of}
use Rattle.bridge_control.specs.Repeats.{without_repeats}
use Rattle.bridge_control.proofs.Repeated.{local_without, bodies_without}
use Rattle.bridge_control.proofs.machine.Machine.bodies.Goals as goal

pub bodies_with-requires-2-clause-local : goal.bodies_with-requires-2-clause-local
bodies_with-requires-2-clause-local c =
    let v = view_of c.args.self.now in
    subst (λ (attached : List Attachment). IsLocal (local_of (attached_to attached v)))
    (ap without_repeats (sym c.as_slice-attached.ensures) ∙ sym (c.as_slice.ensures.value ∙ c.in_ok-few.ensures)) (local_without v c.requires.local)

pub returns : goal.returns
returns c =
    let v = view_of c.args.self.now in
    subst (λ (bodies : List (Option (List ℕ))). IfOk c.bodies_with-2.result (λ out. out.items ≡ bodies))
    (ap (λ (attached : List Attachment). bodies_of (attached_to attached v)) (c.as_slice.ensures.value ∙ (c.in_ok-few.ensures ∙ ap without_repeats c.as_slice-attached.ensures)) ∙ bodies_without v c.requires.local) c.bodies_with-2.ensures
