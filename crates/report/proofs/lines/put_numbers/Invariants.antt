use Rattle.std.proofs.Common.{◌≡◌, ◌++◌, decimal, map, take}
use Rattle.std.specs.List.{flat_map}
use Rattle.report.specs.Words.{spaced}
use Rattle.report.proofs.lines.put_numbers.Given as goal

abbrev pub invariant-loop-number : goal.invariant-loop-number
invariant-loop-number l =
    l.text ≡ l.fn.text ++ flat_map spaced (map decimal (take l.number-index l.numbers))
