use Rattle.std.proofs.Common.{ap, ◌∙◌, arith}
use Rattle.spb_world.specs.World.{World, by_place}
use Rattle.spb_world.specs.Declaring.{vid_refusal, with_vid, plan_of}
use Rattle.spb_world.proofs.WorldLemmas.{Sound-with_vid}
use Rattle.spb_world.proofs.RefusalLemmas.{vid_refusal_none}
use Rattle.spb_world.proofs.world.World.declare_vid.Goals as goal

pub overflow_cast-vid : goal.overflow_cast-vid
overflow_cast-vid c =
    let new = vid_refusal_none _ _ _ c.requires in
    omega (arith, new.vid_high)

pub overflow_cast-ect : goal.overflow_cast-ect
overflow_cast-ect c =
    let new = vid_refusal_none _ _ _ c.requires in
    omega (arith, new.ect_high)

pub invariant_of-self-2 : goal.invariant_of-self-2
unfolding with_vid
invariant_of-self-2 c =
    let old : World = record { vids = c.self.inside.vids.items; bridges = c.self.inside.bridges.entries; links = c.self.inside.links.entries; services = c.self.inside.services.entries; attached = by_place c.self.inside.attached } in
    let none = ap (λ w. vid_refusal w c.args.vid c.args.ect) c.self.view_is ∙ c.requires in
    let new = vid_refusal_none old c.args.vid c.args.ect none in
    (rw c.in_ok-push.ensures.items (Sound-with_vid old (plan_of c.args.vid c.args.ect) c.self.invariant.0 new.new), tt, c.self.invariant.2)

pub returns-clause-ok : goal.returns-clause-ok
unfolding with_vid
returns-clause-ok c =
    rw (← c.self.view_is) (λ i. record { vids = c.in_ok-push.ensures.items i; bridges = c.self.inside.bridges.entries; links = c.self.inside.links.entries; services = c.self.inside.services.entries; attached = by_place c.self.inside.attached })
