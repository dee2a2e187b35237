use Rattle.spb_types.specs.Graph.{systems_of}
use Rattle.what_if.specs.Failing.{fails}
use Rattle.what_if.proofs.Verdicts.{LooksOn}
use Rattle.what_if.proofs.checking.Claim.verdict.Given as goal

abbrev pub invariant-loop-place : goal.invariant-loop-place
invariant-loop-place l = LooksOn (fails l.self.mesh.now.graph l.self.mask l.self.entries.now l.self.source)
    (systems_of l.self.mesh.now.graph.bridges) l.place
