use Rattle.ect_trees.specs.Trial.{ArcsAreLow, IsCompared}
use Rattle.ect_trees.proofs.trial.verdict_of_place.Given as goal

abbrev pub invariant-loop-arc : goal.invariant-loop-arc
invariant-loop-arc l = ArcsAreLow l.ways.mesh.now l.ways.mask l.ways.steps.now l.place l.step l.arc-index l.verdict
    × IsCompared l.ways.mesh.now l.ways.mask l.ways.steps.now l.step.hops l.place l.known
