use Rattle.spb_world.specs.World.{World, by_place}
use Rattle.spb_world.specs.Declaring.{with_end_metric}
use Rattle.spb_world.proofs.WorldLemmas.{Sound-with_end_metric}
use Rattle.spb_world.proofs.world.World.set_metric.Goals as goal

pub invariant_of-self : goal.invariant_of-self
unfolding with_end_metric
invariant_of-self c =
    let old : World = record { vids = c.self.inside.vids.items; bridges = c.self.inside.bridges.entries; links = c.self.inside.links.entries; services = c.self.inside.services.entries; attached = by_place c.self.inside.attached } in
    (rw c.set_end_metric.ensures (Sound-with_end_metric c.args.side c.args.metric old c.args.place c.requires c.self.invariant.0), tt, c.self.invariant.2)

pub returns : goal.returns
unfolding with_end_metric
returns c =
    rw (← c.self.view_is) (λ i. record { vids = c.self.inside.vids.items; bridges = c.self.inside.bridges.entries; links = c.set_end_metric.ensures i; services = c.self.inside.services.entries; attached = by_place c.self.inside.attached })
