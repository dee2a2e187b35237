use Rattle.std.proofs.Common.{◌≡◌, map, take}
use Rattle.std.specs.List.{filter_map}
use Rattle.std.specs.FinMap.{entries}
use Rattle.bridge_api.specs.Tables.{live_lsp}
use Rattle.bridge_control.specs.Reading as reading
use Rattle.bridge_control.proofs.shared_reading.read_lsps.Given as goal

-- copies of the live LSPs so far
abbrev pub invariant-loop-place : goal.invariant-loop-place
invariant-loop-place l = map reading.copied l.lsps.items ≡ filter_map live_lsp (take l.place (entries l.db))
