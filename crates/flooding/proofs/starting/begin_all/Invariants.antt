use Rattle.std.proofs.Common.{◌≡◌, ◌≤◌, drop}
use Rattle.flooding.specs.Own.{HaveBytes}
use Rattle.flooding.specs.declared.own.TheConstants.{OWN_NUMBERS}
use Rattle.flooding.specs.Hearing.{HasFewOthers}
use Rattle.flooding.specs.Starting.{started_all}
use Rattle.flooding.specs.Placing.{holding}
use Rattle.flooding.proofs.starting.begin_all.Given as goal

-- beginning the numbers that are left makes the same as all from the start; few others are held, and each body has a byte
abbrev pub invariant-loop-number : goal.invariant-loop-number
invariant-loop-number l =
    (l.number ≤ OWN_NUMBERS) × ((started_all (drop l.number l.last) l.number (holding l.db l.own) ≡ started_all l.last 0 (holding l.initial.db l.initial.own))
    × (HasFewOthers (holding l.db l.own) × HaveBytes l.own))
