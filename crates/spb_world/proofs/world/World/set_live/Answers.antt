use Rattle.spb_world.specs.World.{World, by_place}
use Rattle.spb_world.specs.Declaring.{with_live}
use Rattle.spb_world.proofs.WorldLemmas.{Sound-with_live}
use Rattle.spb_world.proofs.world.World.set_live.Goals as goal

pub invariant_of-self : goal.invariant_of-self
unfolding with_live
invariant_of-self c =
    let old : World = record { vids = c.self.inside.vids.items; bridges = c.self.inside.bridges.entries; links = c.self.inside.links.entries; services = c.self.inside.services.entries; attached = by_place c.self.inside.attached } in
    (rw c.switch.ensures (Sound-with_live c.args.on old c.args.place c.self.invariant.0), tt, c.self.invariant.2)

pub returns : goal.returns
unfolding with_live
returns c =
    rw (← c.self.view_is) (λ i. record { vids = c.self.inside.vids.items; bridges = c.self.inside.bridges.entries; links = c.switch.ensures i; services = c.self.inside.services.entries; attached = by_place c.self.inside.attached })
