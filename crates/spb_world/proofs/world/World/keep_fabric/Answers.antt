use Rattle.spb_world.proofs.ValidLemmas.{valid}
use Rattle.spb_world.proofs.world.World.keep_fabric.Goals as goal

pub over-requires : goal.over-requires
over-requires c =
    rw (c.in_ok-graph.ensures, ← c.self.view_is) (valid _ c.self.invariant.0)
