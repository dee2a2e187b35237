use Rattle.std.proofs.Common.{◌≡◌, ◌++◌, drop}
use Rattle.bridge_control.specs.Repeats as spec
use Rattle.bridge_control.proofs.repeats.without_repeats.Given as goal

-- those so far, and then what is left of the others
abbrev pub invariant-loop-next : goal.invariant-loop-next
invariant-loop-next l = l.few.items ++ spec.left_behind l.last (drop l.next-index l.rest) ≡ spec.without_repeats l.attached
