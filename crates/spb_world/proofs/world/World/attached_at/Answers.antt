use Rattle.std.proofs.Common.{sym, ap, ◌∙◌}
use Rattle.spb_world.specs.World.{World, attached_at}
use Rattle.spb_world.proofs.ByPlace.{those_are}
use Rattle.spb_world.proofs.world.World.attached_at.Goals as goal

pub returns : goal.returns
returns c = c.at.ensures ∙ (sym (those_are c.args.place c.self.inside.attached) ∙ ap (λ (w : World). attached_at w c.args.place) c.self.view_is)
