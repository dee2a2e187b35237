use Rattle.ect_trees.proofs.EndOnce.{end_once}
use Rattle.ect_trees.proofs.tree.Tree.repair.Goals as goal

pub invariant_of-self-2 : goal.invariant_of-self-2
invariant_of-self-2 c = end_once _ _ c.repair.new.labels.items c.mesh.ensures.ready.valid c.in_ok-anew.ensures.best.labels
