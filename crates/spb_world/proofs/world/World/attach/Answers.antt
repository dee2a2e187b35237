use Rattle.std.proofs.Common.{◌≡◌, ◌<◌, length, sym, ap, ◌∙◌, subst, arith}
use Rattle.spb_world.specs.World.{World, Attachments, by_place, Sound}
use Rattle.spb_world.specs.Attaching.{IsNewAttachment, with_one_at, with_attachment_at}
use Rattle.spb_world.proofs.AttachedLemmas.{Sound-with_attachment}
use Rattle.spb_world.proofs.ByPlace.{with_one_more, length-changed}
use Rattle.spb_world.proofs.world.World.attach.Goals as goal

pub invariant_of-self-2 : goal.invariant_of-self-2
unfolding with_attachment_at
invariant_of-self-2 c =
    let old : World = record { vids = c.self.inside.vids.items; bridges = c.self.inside.bridges.entries; links = c.self.inside.links.entries; services = c.self.inside.services.entries; attached = by_place c.self.inside.attached } in
    let new : IsNewAttachment old (c.args.place, c.args.attachment) = subst (λ (w : World). IsNewAttachment w (c.args.place, c.args.attachment)) (sym c.self.view_is) c.requires in
    let within : c.args.place < length c.self.inside.attached = omega (arith, new.attached.bridge, c.self.invariant.2) in
    let more = ap by_place c.in_ok-attach.ensures.ok ∙ with_one_more c.args.place c.args.attachment c.self.inside.attached within in
    let count = ap length c.in_ok-attach.ensures.ok ∙ length-changed _ c.self.inside.attached c.args.place in
    (subst (λ (xs : Attachments). Sound (record { vids = c.self.inside.vids.items; bridges = c.self.inside.bridges.entries; links = c.self.inside.links.entries; services = c.self.inside.services.entries; attached = xs })) (sym more) (Sound-with_attachment old c.args.place c.args.attachment c.self.invariant.0 new), tt, omega (arith, c.self.invariant.2, count))

pub returns-clause-ok : goal.returns-clause-ok
unfolding with_attachment_at
returns-clause-ok c =
    let old : World = record { vids = c.self.inside.vids.items; bridges = c.self.inside.bridges.entries; links = c.self.inside.links.entries; services = c.self.inside.services.entries; attached = by_place c.self.inside.attached } in
    let new : IsNewAttachment old (c.args.place, c.args.attachment) = subst (λ (w : World). IsNewAttachment w (c.args.place, c.args.attachment)) (sym c.self.view_is) c.requires in
    let within : c.args.place < length c.self.inside.attached = omega (arith, new.attached.bridge, c.self.invariant.2) in
    let more : by_place c.attach.new.self ≡ with_one_at c.args.place c.args.attachment (by_place c.self.inside.attached) = ap by_place c.in_ok-attach.ensures.ok ∙ with_one_more c.args.place c.args.attachment c.self.inside.attached within in
    rw (← c.self.view_is) (λ i. record { vids = c.self.inside.vids.items; bridges = c.self.inside.bridges.entries; links = c.self.inside.links.entries; services = c.self.inside.services.entries; attached = more i })
