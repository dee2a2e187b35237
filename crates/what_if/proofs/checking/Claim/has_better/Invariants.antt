use Rattle.what_if.proofs.Told.{NoneBetter}
use Rattle.what_if.proofs.checking.Claim.has_better.Given as goal

abbrev pub invariant-loop-arc : goal.invariant-loop-arc
invariant-loop-arc l = NoneBetter l.self l.place l.arc-index
