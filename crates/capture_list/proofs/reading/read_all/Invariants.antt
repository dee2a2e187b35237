use Rattle.std.proofs.Common.{◌≤◌, ◌-◌, length}
use Rattle.script_run.specs.Pieces.{most_piece}
use Rattle.capture_list.proofs.Gathering.{Gathering}
use Rattle.capture_list.proofs.reading.read_all.Given as goal

abbrev pub invariant-loop-bytes : goal.invariant-loop-bytes
invariant-loop-bytes g l =
    Gathering g.S.Source.left g.S.Source.faults g.S.Source.is_reliable l.fn.source l.source l.bytes.items × (most_piece ≤ length l.buffer)

abbrev pub decreases-loop-bytes : goal.decreases-loop-bytes
decreases-loop-bytes g l = 67108865 - length l.bytes.items
