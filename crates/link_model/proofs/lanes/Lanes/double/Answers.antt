use Rattle.std.proofs.Common.{arith, slice_get}
use Rattle.link_model.specs.Lane.{after_double}
use Rattle.link_model.specs.Lanes.{changed_lane}
use Rattle.link_model.proofs.IdleLemmas.{idle-either}
use Rattle.link_model.proofs.lanes.Lanes.double.Goals as goal

pub invariant_of-self : goal.invariant_of-self
invariant_of-self c =
    idle-either c.double.result (changed_lane c.args.id.dir (λ frames. after_double frames c.args.place (slice_get frames c.args.place))) c.self.inside.all c.double.new.self c.self.inside.idle c.args.id.link c.min-self-inside.result
    (omega (arith, c.min-self-inside.ensures)) (omega (arith, c.min-self-inside.ensures)) c.double.ensures.ok c.double.ensures.err c.self.invariant
