use Rattle.std.proofs.Common.{take}
use Rattle.lsdb.proofs.Calm.{AllLive}
use Rattle.lsdb.proofs.database.seconds_left.Given as goal

abbrev pub invariant-loop-h : goal.invariant-loop-h
invariant-loop-h l = AllLive l.left (take l.h-index l.held)
