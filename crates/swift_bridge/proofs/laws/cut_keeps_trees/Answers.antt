use Rattle.swift_bridge.proofs.CutTrees.{cut_keeps_trees}
use Rattle.swift_bridge.proofs.laws.cut_keeps_trees.Goals as goal

pub returns : goal.returns
returns c = cut_keeps_trees
