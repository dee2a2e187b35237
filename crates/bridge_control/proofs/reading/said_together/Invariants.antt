use Rattle.std.proofs.Common.{◌≡◌, ◌≤◌, ◌-◌, ◌++◌}
use Rattle.flooding.specs.Own.{own_numbers}
use Rattle.flooding.specs.declared.own.TheConstants.{OWN_NUMBERS}
use Rattle.bridge_api.specs.Tables.{live_lsps, tlvs_among}
use Rattle.bridge_control.proofs.reading.said_together.Given as goal

-- the TLVs of the numbers so far, with those of all that are left, are those of all numbers
abbrev pub invariant-loop-number : goal.invariant-loop-number
invariant-loop-number l =
    (l.number ≤ OWN_NUMBERS) × (l.tlvs.items ++ tlvs_among (live_lsps l.db) l.system (own_numbers - l.number) l.number ≡ tlvs_among (live_lsps l.db) l.system own_numbers 0)
