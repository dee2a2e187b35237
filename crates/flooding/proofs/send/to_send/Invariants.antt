use Rattle.std.proofs.Common.{◌≡◌, take}
use Rattle.std.specs.FinMap.{entries}
use Rattle.flooding.specs.Sending.{ids_among}
use Rattle.flooding.proofs.send.to_send.Given as goal

abbrev pub invariant-loop-place : goal.invariant-loop-place
invariant-loop-place l = l.ids.items ≡ ids_among l.port (take l.place (entries l.db))
