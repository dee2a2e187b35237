use Rattle.std.proofs.Common.{◌≡◌, ◌++◌, map, take}
use Rattle.std.specs.List.{flat_map}
use Rattle.report.specs.Words.{spaced}
use Rattle.report.specs.Checking.{entry_text}
use Rattle.report.proofs.checking.put_entries.Given as goal

abbrev pub invariant-loop-entry : goal.invariant-loop-entry
invariant-loop-entry l = l.text ≡ l.fn.text ++ flat_map spaced (map entry_text (take l.entry-index l.entries))
