use Rattle.std.proofs.Common.{◌≡◌, List, IfOk, length, refl, subst}
use Rattle.spb_types.specs.declared.graph.Member.{Member}
use Rattle.spb_world.specs.World.{World, by_place}
use Rattle.spb_world.proofs.MemberLemmas.{members_are}
use Rattle.spb_world.proofs.world.World.members.Goals as goal

pub returns : goal.returns
returns c =
    let w : World = record { vids = c.self.inside.vids.items; bridges = c.self.inside.bridges.entries; links = c.self.inside.links.entries; services = c.self.inside.services.entries; attached = by_place c.self.inside.attached } in
    rw (← c.self.view_is) (subst (λ (ms : List Member). IfOk c.graph_members.result (λ made. made.items ≡ ms)) (members_are w c.self.inside.attached (length w.bridges) refl) c.graph_members.ensures)
