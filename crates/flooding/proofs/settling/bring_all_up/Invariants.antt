use Rattle.std.proofs.Common.{◌≡◌, ◌≤◌, false, if◌then◌else◌}
use Rattle.flooding.specs.Own as own_specs
use Rattle.flooding.specs.declared.own.TheConstants.{OWN_NUMBERS}
use Rattle.flooding.specs.Hearing.{HasFewOthers}
use Rattle.flooding.specs.Placing.{holding}
use Rattle.flooding.specs.Settling as settling
use Rattle.flooding.proofs.NoneHeld.{NoneAhead}
use Rattle.flooding.proofs.Rest.{rest_of}
use Rattle.flooding.proofs.settling.bring_all_up.Given as goal

-- what is left to be brought up makes the same as all from the start; few others are held, and the bodies are as they
-- were; none is held of the numbers to come above the last that is held; and nothing changed while nothing was brought
-- up
abbrev pub invariant-loop-number : goal.invariant-loop-number
invariant-loop-number l =
    (l.number ≤ OWN_NUMBERS) × ((rest_of (if l.by_age then settling.is_new else settling.says) l.up l.number (holding l.db l.own) ≡ rest_of (if l.by_age then settling.is_new else settling.says) l.up 0 (holding l.initial.db l.initial.own))
    × ((HasFewOthers (holding l.db l.own) × own_specs.HaveBytes l.own)
    × (NoneAhead l.last l.number (holding l.db l.own) × (l.brought ≡ false → holding l.db l.own ≡ holding l.initial.db l.initial.own))))
