use Rattle.what_if.specs.Labels.{AreFirstWays}
use Rattle.what_if.proofs.following.ways.Given as goal

abbrev pub invariant-loop-place : goal.invariant-loop-place
invariant-loop-place l = AreFirstWays l.mesh.graph l.entries l.source l.place l.labels.items
