use Rattle.std.proofs.Common.{◌≡◌, filter, length, sym, ap, ◌∙◌, subst, arith}
use Rattle.spb_world.specs.World.{World, Attachments, by_place, Sound}
use Rattle.spb_world.specs.Attaching.{is_elsewhere, without_attachment_at}
use Rattle.spb_world.proofs.AttachedLemmas.{Sound-without_attachment}
use Rattle.spb_world.proofs.ByPlace.{with_one_fewer, length-changed}
use Rattle.spb_world.proofs.world.World.detach.Goals as goal

pub invariant_of-self : goal.invariant_of-self
unfolding without_attachment_at
invariant_of-self c =
    let old : World = record { vids = c.self.inside.vids.items; bridges = c.self.inside.bridges.entries; links = c.self.inside.links.entries; services = c.self.inside.services.entries; attached = by_place c.self.inside.attached } in
    let fewer = ap by_place c.detach.ensures ∙ with_one_fewer c.args.place c.args.port c.self.inside.attached in
    let count = ap length c.detach.ensures ∙ length-changed _ c.self.inside.attached c.args.place in
    (subst (λ (xs : Attachments). Sound (record { vids = c.self.inside.vids.items; bridges = c.self.inside.bridges.entries; links = c.self.inside.links.entries; services = c.self.inside.services.entries; attached = xs })) (sym fewer) (Sound-without_attachment old c.args.place c.args.port c.self.invariant.0), tt, omega (arith, c.self.invariant.2, count))

pub returns : goal.returns
unfolding without_attachment_at
returns c =
    let fewer : by_place c.detach.new.self ≡ filter (is_elsewhere c.args.place c.args.port) (by_place c.self.inside.attached) = ap by_place c.detach.ensures ∙ with_one_fewer c.args.place c.args.port c.self.inside.attached in
    rw (← c.self.view_is) (λ i. record { vids = c.self.inside.vids.items; bridges = c.self.inside.bridges.entries; links = c.self.inside.links.entries; services = c.self.inside.services.entries; attached = fewer i })
