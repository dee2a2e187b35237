use Rattle.std.proofs.Common.{◌≡◌, ◌≤◌, length, take}
use Rattle.std.specs.List.{filter_map}
use Rattle.std.specs.FinMap.{entries}
use Rattle.bridge_api.specs.Tables.{live_lsps}
use Rattle.bridge_control.specs.Reading.{read_entry}
use Rattle.bridge_control.proofs.reading.contents.Given as goal

-- what was read at the LSPs so far
abbrev pub invariant-loop-place : goal.invariant-loop-place
invariant-loop-place l = (l.list.items ≡ filter_map (read_entry (live_lsps l.db)) (take l.place (entries l.db))) × (length l.list.items ≤ l.place)
