use Rattle.swift_bridge.specs.Following.{Stays}
use Rattle.swift_bridge.proofs.UpToDate.{Cut}
use Rattle.swift_bridge.proofs.following.remove_gone.Given as goal

-- of the edges so far, those that still stand are joined in the graph
abbrev pub invariant-loop-edge : goal.invariant-loop-edge
invariant-loop-edge l = Stays l.fn.set l.set × Cut l.graph l.edge-items l.edge-index l.set.graph
