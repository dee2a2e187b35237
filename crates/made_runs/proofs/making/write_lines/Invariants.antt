use Rattle.std.proofs.Common.{drop}
use Rattle.made_runs.specs.Making.{script_text}
use Rattle.script_run.proofs.Writing.{Writing}
use Rattle.made_runs.proofs.making.write_lines.Given as goal

abbrev pub invariant-loop-command : goal.invariant-loop-command
invariant-loop-command g l = Writing g.K.Sink.holds g.K.Sink.faults g.K.Sink.is_reliable l.fn.sink l.sink (script_text l.commands) (script_text (drop l.command-index l.commands))
