use Rattle.std.proofs.Common.{◌≡◌, ◌++◌, codes, decimal, map, take}
use Rattle.std.specs.List.{flat_map}
use Rattle.report.specs.Words.{spaced}
use Rattle.report.proofs.lines.put_conditions.Given as goal

abbrev pub invariant-loop-condition : goal.invariant-loop-condition
invariant-loop-condition l =
    l.text ≡ l.fn.text ++ flat_map spaced (map (λ n. codes "q" ++ decimal n) (take l.condition-index l.failing))
