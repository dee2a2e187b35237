use Rattle.std.proofs.Common.{◌≡◌}
use Rattle.std.specs.List.{find}
use Rattle.customer_learning.specs.Known.{is_local}
use Rattle.customer_learning.proofs.table.first_at.Given as goal

abbrev pub invariant-loop-mac : goal.invariant-loop-mac
invariant-loop-mac l =
    (goal.iterator-loop-mac).can_next l.mac-iterator ×
    (goal.iterator-loop-mac).is_finite l.mac-iterator ×
    (find (λ e. is_local l.port e.1) l.mac-iterator ≡ find (λ e. is_local l.port e.1) l.addresses.entries)
