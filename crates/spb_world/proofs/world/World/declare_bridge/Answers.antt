use Rattle.std.proofs.Common.{◌≡◌, ◌∷◌, [], ◌++◌, length, sym, ap, ◌∙◌, subst, arith}
use Rattle.spb_world.specs.World.{World, Attachments, by_place, Sound}
use Rattle.spb_world.specs.Declaring.{bridge_refusal, with_bridge, bridge_of}
use Rattle.spb_world.proofs.WorldLemmas.{Sound-with_bridge}
use Rattle.spb_world.proofs.ListLemmas.{length-push}
use Rattle.spb_world.proofs.RefusalLemmas.{bridge_refusal_none}
use Rattle.spb_world.proofs.ByPlace.{with_one_bridge}
use Rattle.spb_world.proofs.BoxLemmas.{err_any}
use Rattle.spb_world.proofs.world.World.declare_bridge.Goals as goal

pub overflow_cast-id : goal.overflow_cast-id
overflow_cast-id c =
    let new = bridge_refusal_none _ _ _ _ _ _ c.requires in
    omega (arith, new.priority_high)

pub overflow_cast-bridge : goal.overflow_cast-bridge
overflow_cast-bridge c =
    let new = bridge_refusal_none _ _ _ _ _ _ c.requires in
    omega (arith, new.ports_high)

pub insert_new-requires : goal.insert_new-requires
insert_new-requires c =
    let none = ap (λ w. bridge_refusal w c.args.name c.args.priority c.args.system c.args.source c.args.ports) c.self.view_is ∙ c.requires in
    (bridge_refusal_none _ _ _ _ _ _ none).name_new

-- after the list, the name may find no memory
pub invariant_of-self-in_err-insert_new : goal.invariant_of-self-in_err-insert_new
invariant_of-self-in_err-insert_new c =
    let same = ap by_place c.in_ok-add_bridge-2.ensures.ok ∙ with_one_bridge c.self.inside.attached in
    let count = ap length c.in_ok-add_bridge-2.ensures.ok ∙ length-push c.self.inside.attached [] in
    (rw c.in_err-insert_new.ensures.err (subst (λ (xs : Attachments). Sound (record { vids = c.self.inside.vids.items; bridges = c.self.inside.bridges.entries; links = c.self.inside.links.entries; services = c.self.inside.services.entries; attached = xs })) (sym same) c.self.invariant.0), tt, omega (arith, c.self.invariant.2, count, ap length c.in_err-insert_new.ensures.err))

pub invariant_of-self-2 : goal.invariant_of-self-2
unfolding with_bridge
invariant_of-self-2 c =
    let old : World = record { vids = c.self.inside.vids.items; bridges = c.self.inside.bridges.entries; links = c.self.inside.links.entries; services = c.self.inside.services.entries; attached = by_place c.self.inside.attached } in
    let none = ap (λ w. bridge_refusal w c.args.name c.args.priority c.args.system c.args.source c.args.ports) c.self.view_is ∙ c.requires in
    let new = bridge_refusal_none old c.args.name c.args.priority c.args.system c.args.source c.args.ports none in
    let same = ap by_place c.in_ok-add_bridge-2.ensures.ok ∙ with_one_bridge c.self.inside.attached in
    let count = ap length c.in_ok-add_bridge-2.ensures.ok ∙ length-push c.self.inside.attached [] in
    (rw c.in_ok-insert_new.ensures.ok (subst (λ (xs : Attachments). Sound (record { vids = c.self.inside.vids.items; bridges = c.self.inside.bridges.entries ++ (c.args.name, bridge_of c.args.priority c.args.system c.args.source c.args.ports) ∷ []; links = c.self.inside.links.entries; services = c.self.inside.services.entries; attached = xs })) (sym same) (Sound-with_bridge old c.args.name (bridge_of c.args.priority c.args.system c.args.source c.args.ports) c.self.invariant.0 new.new)), tt, omega (arith, c.self.invariant.2, count, ap length c.in_ok-insert_new.ensures.ok, length-push c.self.inside.bridges.entries (c.args.name, bridge_of c.args.priority c.args.system c.args.source c.args.ports)))

pub returns-clause-ok : goal.returns-clause-ok
unfolding with_bridge
returns-clause-ok c =
    let same : by_place c.add_bridge-2.new.self ≡ by_place c.self.inside.attached = ap by_place c.in_ok-add_bridge-2.ensures.ok ∙ with_one_bridge c.self.inside.attached in
    rw (← c.self.view_is) (λ i. record { vids = c.self.inside.vids.items; bridges = c.in_ok-insert_new.ensures.ok i; links = c.self.inside.links.entries; services = c.self.inside.services.entries; attached = same i })

pub returns-in_err-insert_new-clause-err : goal.returns-in_err-insert_new-clause-err
returns-in_err-insert_new-clause-err c =
    let same : by_place c.add_bridge-2.new.self ≡ by_place c.self.inside.attached = ap by_place c.in_ok-add_bridge-2.ensures.ok ∙ with_one_bridge c.self.inside.attached in
    err_any c.from_residual-in_err-insert_new.result ((λ i. record { vids = c.self.inside.vids.items; bridges = c.in_err-insert_new.ensures.err i; links = c.self.inside.links.entries; services = c.self.inside.services.entries; attached = same i }) ∙ c.self.view_is)
