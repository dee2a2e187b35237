use Rattle.std.proofs.Common.{ap, ◌∙◌, arith}
use Rattle.spb_world.specs.World.{World, by_place}
use Rattle.spb_world.specs.Services.{isid_refusal, service_of, with_service}
use Rattle.spb_world.proofs.ServiceLemmas.{Sound-with_service, insert_entry-new_isid}
use Rattle.spb_world.proofs.RefusalLemmas.{isid_refusal_none}
use Rattle.spb_world.proofs.world.World.declare_isid.Goals as goal

pub overflow_cast-isid : goal.overflow_cast-isid
overflow_cast-isid c =
    let new = isid_refusal_none _ _ _ c.requires in
    omega (arith, new.isid_high)

pub overflow_cast-vid : goal.overflow_cast-vid
overflow_cast-vid c =
    let old : World = record { vids = c.self.inside.vids.items; bridges = c.self.inside.bridges.entries; links = c.self.inside.links.entries; services = c.self.inside.services.entries; attached = by_place c.self.inside.attached } in
    let none = ap (λ w. isid_refusal w c.args.isid c.args.vid) c.self.view_is ∙ c.requires in
    let high = (isid_refusal_none old c.args.isid c.args.vid none).vid_high c.self.invariant.0.each_vid in
    omega (arith, high)

pub invariant_of-self-2 : goal.invariant_of-self-2
unfolding with_service
invariant_of-self-2 c =
    let old : World = record { vids = c.self.inside.vids.items; bridges = c.self.inside.bridges.entries; links = c.self.inside.links.entries; services = c.self.inside.services.entries; attached = by_place c.self.inside.attached } in
    let none = ap (λ w. isid_refusal w c.args.isid c.args.vid) c.self.view_is ∙ c.requires in
    let new = isid_refusal_none old c.args.isid c.args.vid none in
    (rw (c.in_ok-insert.ensures.entries ∙ insert_entry-new_isid c.self.inside.services.entries (service_of c.args.isid c.args.vid) new.isid_new) (Sound-with_service old (service_of c.args.isid c.args.vid) c.self.invariant.0 new.new), c.self.invariant.1, c.self.invariant.2)

pub returns-clause-ok : goal.returns-clause-ok
unfolding with_service
returns-clause-ok c =
    let old : World = record { vids = c.self.inside.vids.items; bridges = c.self.inside.bridges.entries; links = c.self.inside.links.entries; services = c.self.inside.services.entries; attached = by_place c.self.inside.attached } in
    let none = ap (λ w. isid_refusal w c.args.isid c.args.vid) c.self.view_is ∙ c.requires in
    let new = isid_refusal_none old c.args.isid c.args.vid none in
    rw (← c.self.view_is) (λ i. record { vids = c.self.inside.vids.items; bridges = c.self.inside.bridges.entries; links = c.self.inside.links.entries; services = (c.in_ok-insert.ensures.entries ∙ insert_entry-new_isid c.self.inside.services.entries (service_of c.args.isid c.args.vid) new.isid_new) i; attached = by_place c.self.inside.attached })
