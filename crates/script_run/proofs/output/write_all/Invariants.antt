use Rattle.std.proofs.Common.{length}
use Rattle.script_run.proofs.Writing.{Writing}
use Rattle.script_run.proofs.output.write_all.Given as goal

abbrev pub invariant-loop-rest : goal.invariant-loop-rest
invariant-loop-rest g l = Writing g.K.Sink.holds g.K.Sink.faults g.K.Sink.is_reliable l.fn.sink l.sink l.bytes l.rest

abbrev pub decreases-loop-rest : goal.decreases-loop-rest
decreases-loop-rest g l = length l.rest
