use Rattle.std.proofs.Common.{◌≡◌, map, take}
use Rattle.lsdb.specs.Database.{keyed, flagged_from}
use Rattle.lsdb.proofs.database.flagged_places.Given as goal

abbrev pub invariant-loop-place : goal.invariant-loop-place
invariant-loop-place l = l.places.items ≡ flagged_from 0 (map keyed (take l.place l.held))
