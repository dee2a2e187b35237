use Rattle.std.proofs.Common.{arith}
use Rattle.link_model.specs.Lane.{after_lose}
use Rattle.link_model.specs.Lanes.{changed_lane}
use Rattle.link_model.proofs.IdleLemmas.{idle-as}
use Rattle.link_model.proofs.lanes.Lanes.lose.Goals as goal

pub invariant_of-self : goal.invariant_of-self
invariant_of-self c =
    idle-as (changed_lane c.args.id.dir (λ frames. after_lose frames c.args.place)) c.self.inside.all c.lose.new.self c.self.inside.idle c.args.id.link c.min-self-inside.result
    (omega (arith, c.min-self-inside.ensures)) (omega (arith, c.min-self-inside.ensures)) c.lose.ensures c.self.invariant
