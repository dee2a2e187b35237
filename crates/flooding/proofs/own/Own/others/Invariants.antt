use Rattle.std.proofs.Common.{◌≡◌, ◌≤◌, length, take}
use Rattle.std.specs.FinMap.{entries}
use Rattle.flooding.specs.Room.{others_among}
use Rattle.flooding.proofs.own.Own.others.Given as goal

-- how many there are among the entries so far
abbrev pub invariant-loop-place : goal.invariant-loop-place
invariant-loop-place l = (l.count ≡ length (others_among l.self.system (take l.place (entries l.db)))) × (l.count ≤ l.place)
