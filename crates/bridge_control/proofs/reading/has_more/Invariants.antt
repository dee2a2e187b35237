use Rattle.std.proofs.Common.{take}
use Rattle.std.specs.List.{filter_map}
use Rattle.std.specs.FinMap.{entries}
use Rattle.bridge_api.specs.Tables.{live_lsp}
use Rattle.bridge_control.specs.Reading.{AreFirst}
use Rattle.bridge_control.proofs.reading.has_more.Given as goal

-- of those so far, all that are read have number 0
abbrev pub invariant-loop-place : goal.invariant-loop-place
invariant-loop-place l = AreFirst (filter_map live_lsp (take l.place (entries l.db)))
