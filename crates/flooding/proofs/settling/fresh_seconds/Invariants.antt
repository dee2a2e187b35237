use Rattle.std.proofs.Common.{ℕ, ◌≤◌, ◌<◌}
use Rattle.flooding.specs.declared.own.TheConstants.{OWN_NUMBERS}
use Rattle.flooding.specs.Placing.{holding}
use Rattle.flooding.specs.Settling.{own_held, IsFreshFor}
use Rattle.flooding.proofs.settling.fresh_seconds.Given as goal

-- so it is with the numbers that were looked at
abbrev pub invariant-loop-fragment : goal.invariant-loop-fragment
invariant-loop-fragment l =
    (l.fragment ≤ OWN_NUMBERS) × (1 ≤ l.seconds → (number : ℕ) → number < l.fragment → IsFreshFor l.seconds (own_held (holding l.db l.own) number))
