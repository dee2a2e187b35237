use Rattle.std.proofs.Common.{◌&&◌, ◌==◌, sym, ap, ◌∙◌}
use Rattle.std.specs.List.{list_any}
use Rattle.spb_types.specs.Service.{sends}
use Rattle.spb_world.proofs.AttachedLemmas.{any_at}
use Rattle.spb_world.proofs.world.World.is_sending.Goals as goal

pub returns : goal.returns
returns c =
    c.is_sending.ensures
    ∙ (ap (list_any (λ a. (a.port == c.args.port) && sends a.mode)) c.attached_at.ensures
    ∙ sym (any_at (λ a. (a.port == c.args.port) && sends a.mode) c.args.place c.args.self.now.attached))
