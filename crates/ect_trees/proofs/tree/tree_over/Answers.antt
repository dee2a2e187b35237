use Rattle.std.proofs.Common.{refl}
use Rattle.ect_trees.proofs.EndOnce.{end_once}
use Rattle.ect_trees.proofs.Ends.{paths_are_best}
use Rattle.ect_trees.proofs.tree.tree_over.Goals as goal

pub returns : goal.returns
returns c = record {
  best = record { from = refl; best = λ to. paths_are_best _ _ _ c.in_ok-labels.labels.items to c.requires.valid c.in_ok-labels.ensures };
  grown = record { paths_are = refl; best = c.in_ok-labels.ensures };
}

pub invariant_of-result : goal.invariant_of-result
invariant_of-result c = end_once _ _ c.in_ok-labels.labels.items c.requires.valid c.in_ok-labels.ensures.labels
