use Rattle.std.proofs.Common.{length}
use Rattle.script_run.proofs.Going.{Playing}
use Rattle.spb_network.specs.Network.{state_of}
use Rattle.script_run.specs.Replying.{IsAlive}
use Rattle.script_run.proofs.pieces.play_piece.Given as goal

abbrev pub invariant-loop-rest : goal.invariant-loop-rest
invariant-loop-rest g l =
    Playing l.voice g.K.Sink.holds g.K.Sink.faults g.K.Sink.is_reliable l.piece l.rest (state_of g.B.Bridge.shown l.fn.network) (state_of g.B.Bridge.shown l.network) l.fn.number l.number
    l.fn.cutter l.cutter l.fn.sink l.sink × IsAlive g.B.Bridge.shown l.network

abbrev pub decreases-loop-rest : goal.decreases-loop-rest
decreases-loop-rest g l = length l.rest
