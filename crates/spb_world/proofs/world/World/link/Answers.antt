use Rattle.std.proofs.Common.{ap, sym, ◌∙◌}
use Rattle.std.specs.Option.{option_map}
use Rattle.std.specs.Map.Iter.{deref_pair}
use Rattle.spb_world.specs.World.{IsLink, things_of}
use Rattle.spb_world.proofs.BoxLemmas.{All-get}
use Rattle.spb_world.proofs.PlaceLemmas.{get_things}
use Rattle.spb_world.proofs.world.World.link.Goals as goal

pub returns-in-Some-clause-ends : goal.returns-in-Some-clause-ends
returns-in-Some-clause-ends c =
    let at = get_things c.self.inside.links.entries c.args.place ∙ ap (option_map (λ e. e.1)) (sym c.get_index.ensures.entry ∙ ap (option_map deref_pair) c.in-Some.is) in
    rw (← c.self.view_is) (All-get (IsLink c.self.inside.bridges.entries) (things_of c.self.inside.links.entries) c.args.place c.in-Some.link.now c.self.invariant.0.links at)
