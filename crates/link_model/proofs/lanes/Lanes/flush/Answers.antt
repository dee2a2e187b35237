use Rattle.std.proofs.Common.{arith}
use Rattle.link_model.specs.Lanes.{no_frames}
use Rattle.link_model.proofs.IdleLemmas.{idle-as}
use Rattle.link_model.proofs.lanes.Lanes.flush.Goals as goal

pub invariant_of-self : goal.invariant_of-self
invariant_of-self c =
    idle-as (λ _. no_frames) c.self.inside.all c.flush.new.self c.self.inside.idle c.args.link c.min-self-inside.result
    (omega (arith, c.min-self-inside.ensures)) (omega (arith, c.min-self-inside.ensures)) c.flush.ensures c.self.invariant
