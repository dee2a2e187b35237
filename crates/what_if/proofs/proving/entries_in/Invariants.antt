use Rattle.std.proofs.Common.{◌≡◌, ℕ, take, map}
use Rattle.spb_types.specs.Graph.{systems_of}
use Rattle.ect_trees.specs.Tree.{GivesBest}
use Rattle.what_if.specs.Entries.{best_entry}
use Rattle.what_if.proofs.proving.entries_in.Given as goal

abbrev pub invariant-loop-place : goal.invariant-loop-place
invariant-loop-place l = (mask : ℕ) → GivesBest l.graph mask l.tree.source l.tree
    → l.entries.items ≡ map (best_entry l.graph mask l.tree.source) (take l.place (systems_of l.graph.bridges))
