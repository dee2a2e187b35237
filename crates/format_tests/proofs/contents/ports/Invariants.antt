use Rattle.std.proofs.Common.{◌≡◌, ◌+◌, ◌≤◌}
use Rattle.std.specs.Prelude.{◌%◌}
use Rattle.std.specs.List.{AllByRecursion}
use Rattle.format_tests.proofs.contents.ports.Given as goal

abbrev pub invariant-loop-place : goal.invariant-loop-place
invariant-loop-place l = AllByRecursion (λ m. (1 ≤ m.isid.value) × (m.isid.value ≤ 60) × (m.vid.value ≡ 10 + m.isid.value % l.vids)) l.ports
