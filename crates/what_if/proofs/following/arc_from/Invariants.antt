use Rattle.what_if.proofs.Arcs.{NoneFrom}
use Rattle.what_if.proofs.following.arc_from.Given as goal

abbrev pub invariant-loop-arc : goal.invariant-loop-arc
invariant-loop-arc l = NoneFrom l.mesh l.place l.neighbour l.arc-index
