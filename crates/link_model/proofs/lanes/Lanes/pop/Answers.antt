use Rattle.link_model.proofs.IdleLemmas.{idle-popped}
use Rattle.link_model.proofs.lanes.Lanes.pop.Goals as goal

pub invariant_of-self : goal.invariant_of-self
invariant_of-self c =
    idle-popped c.args.id.dir c.self.inside.all c.pop.new.self c.self.inside.idle c.args.id.link c.pop.ensures.rest c.self.invariant
