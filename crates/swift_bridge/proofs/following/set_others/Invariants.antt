use Rattle.swift_bridge.specs.Following.{Stays}
use Rattle.swift_bridge.proofs.UpToDate.{Grown}
use Rattle.swift_bridge.proofs.following.set_others.Given as goal

-- the set has the edges so far
abbrev pub invariant-loop-edge : goal.invariant-loop-edge
invariant-loop-edge l = Stays l.fn.set l.set × Grown l.graph l.edge-index l.set.graph
