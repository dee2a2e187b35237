use Rattle.ect_trees.specs.Trial.{AreSound}
use Rattle.ect_trees.proofs.trial.are_sound.Given as goal

abbrev pub invariant-loop-place : goal.invariant-loop-place
invariant-loop-place l = AreSound l.ways.mesh.now l.ways.steps.now l.source l.place
