use Rattle.std.proofs.Common.{length}
use Rattle.hex.specs.Hex.{encode_lower}
use Rattle.script_run.proofs.Putting.{Putting}
use Rattle.capture_list.proofs.lines.put_digits.Given as goal

abbrev pub invariant-loop-rest : goal.invariant-loop-rest
invariant-loop-rest g l =
    Putting g.K.Sink.holds g.K.Sink.faults g.K.Sink.is_reliable l.fn.sink l.sink l.fn.held.items l.held.items
    (encode_lower l.bytes) (encode_lower l.rest)

abbrev pub decreases-loop-rest : goal.decreases-loop-rest
decreases-loop-rest g l = length l.rest
