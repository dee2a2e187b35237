use Rattle.std.proofs.Common.{drop}
use Rattle.script_run.specs.Play.{packets_of}
use Rattle.script_run.proofs.Putting.{Putting}
use Rattle.script_run.proofs.packets.put_packets.Given as goal

abbrev pub invariant-loop-item : goal.invariant-loop-item
invariant-loop-item g l =
    Putting g.K.Sink.holds g.K.Sink.faults g.K.Sink.is_reliable l.fn.sink l.sink l.fn.held.items l.held.items
    (packets_of l.seen) (packets_of (drop l.item-index l.seen))
