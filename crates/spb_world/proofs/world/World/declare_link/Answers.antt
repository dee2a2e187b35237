use Rattle.std.proofs.Common.{ap, ◌∙◌, arith}
use Rattle.spb_world.specs.World.{World, by_place}
use Rattle.spb_world.specs.Declaring.{link_refusal, with_link, link_of}
use Rattle.spb_world.proofs.WorldLemmas.{Sound-with_link, ports_at-le}
use Rattle.spb_world.proofs.RefusalLemmas.{link_refusal_none}
use Rattle.spb_world.proofs.world.World.declare_link.Goals as goal

pub overflow_cast-metric : goal.overflow_cast-metric
overflow_cast-metric c =
    let new = link_refusal_none _ _ _ _ _ _ _ c.requires in
    omega (arith, new.cost_high)

pub overflow_cast-link : goal.overflow_cast-link
overflow_cast-link c =
    let new = link_refusal_none _ _ _ _ _ _ _ c.requires in
    omega (arith, new.port_a_high, ports_at-le c.args.self.now.bridges c.args.i (rw (← c.self.view_is) c.self.invariant.0.ports))

pub overflow_cast-link-2 : goal.overflow_cast-link-2
overflow_cast-link-2 c =
    let new = link_refusal_none _ _ _ _ _ _ _ c.requires in
    omega (arith, new.port_b_high, ports_at-le c.args.self.now.bridges c.args.j (rw (← c.self.view_is) c.self.invariant.0.ports))

pub insert_new-requires : goal.insert_new-requires
insert_new-requires c =
    let none = ap (λ w. link_refusal w c.args.name c.args.i c.args.port_a c.args.j c.args.port_b c.args.cost) c.self.view_is ∙ c.requires in
    (link_refusal_none _ _ _ _ _ _ _ none).name_new

pub invariant_of-self-2 : goal.invariant_of-self-2
unfolding with_link
invariant_of-self-2 c =
    let old : World = record { vids = c.self.inside.vids.items; bridges = c.self.inside.bridges.entries; links = c.self.inside.links.entries; services = c.self.inside.services.entries; attached = by_place c.self.inside.attached } in
    let none = ap (λ w. link_refusal w c.args.name c.args.i c.args.port_a c.args.j c.args.port_b c.args.cost) c.self.view_is ∙ c.requires in
    let new = link_refusal_none old c.args.name c.args.i c.args.port_a c.args.j c.args.port_b c.args.cost none in
    (rw c.in_ok-insert_new.ensures.ok (Sound-with_link old c.args.name (link_of c.args.i c.args.port_a c.args.j c.args.port_b c.args.cost) c.self.invariant.0 new.new), tt, c.self.invariant.2)

pub returns-clause-ok : goal.returns-clause-ok
unfolding with_link
returns-clause-ok c =
    rw (← c.self.view_is) (λ i. record { vids = c.self.inside.vids.items; bridges = c.self.inside.bridges.entries; links = c.in_ok-insert_new.ensures.ok i; services = c.self.inside.services.entries; attached = by_place c.self.inside.attached })
