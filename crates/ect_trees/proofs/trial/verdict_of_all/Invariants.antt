use Rattle.ect_trees.specs.Trial.{PlacesAreLow}
use Rattle.ect_trees.proofs.trial.verdict_of_all.Given as goal

abbrev pub invariant-loop-place : goal.invariant-loop-place
invariant-loop-place l = PlacesAreLow l.ways.mesh.now l.ways.mask l.ways.steps.now l.place l.verdict
