use Rattle.std.proofs.Common.{arith}
use Rattle.link_model.specs.Lane.{pushed}
use Rattle.link_model.specs.Lanes.{changed_lane}
use Rattle.link_model.proofs.IdleLemmas.{idle-either}
use Rattle.link_model.proofs.lanes.Lanes.push.Goals as goal

pub invariant_of-self : goal.invariant_of-self
invariant_of-self c =
    idle-either c.push.result (changed_lane c.args.id.dir (λ frames. pushed frames c.args.frame)) c.self.inside.all c.push.new.self c.self.inside.idle c.args.id.link c.min-self-inside.result
    (omega (arith, c.min-self-inside.ensures)) (omega (arith, c.min-self-inside.ensures)) c.push.ensures.ok c.push.ensures.err c.self.invariant
