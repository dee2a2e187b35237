use Rattle.flooding.proofs.NoneHeld.{StandsBefore}
use Rattle.flooding.proofs.settling.last_held.Given as goal

-- the own number that was seen last stands right before the place
abbrev pub invariant-loop-place : goal.invariant-loop-place
invariant-loop-place l = StandsBefore l.own.system l.db l.place l.last
