use Rattle.std.proofs.Common.{◌≡◌, map, take, ◌≤◌, length}
use Rattle.std.specs.List.{filter_map}
use Rattle.std.specs.FinMap.{entries}
use Rattle.bridge_api.specs.Tables.{live_lsp}
use Rattle.bridge_control.specs.Reading as reading
use Rattle.bridge_control.proofs.shared_reading.are_held.Given as goal

-- the live LSPs so far are as many of the copies
abbrev pub invariant-loop-place : goal.invariant-loop-place
invariant-loop-place l = (map reading.copied (take l.next l.lsps) ≡ filter_map live_lsp (take l.place (entries l.db))) × (l.next ≤ length l.lsps)
