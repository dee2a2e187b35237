use Rattle.std.proofs.Common.{◌≤◌}
use Rattle.flooding.specs.declared.own.TheConstants.{OWN_NUMBERS}
use Rattle.flooding.specs.Placing.{holding}
use Rattle.flooding.proofs.Rest.{AreYoung}
use Rattle.flooding.proofs.settling.has_old.Given as goal

-- none of the numbers that were looked at is old
abbrev pub invariant-loop-next : goal.invariant-loop-next
invariant-loop-next l = (l.next ≤ OWN_NUMBERS) × AreYoung (holding l.db l.own) l.next
