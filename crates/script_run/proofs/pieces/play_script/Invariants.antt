use Rattle.std.proofs.Common.{◌-◌, ◌≤◌, length}
use Rattle.spb_network.specs.Network.{state_of}
use Rattle.script_run.specs.Pieces.{most_piece}
use Rattle.script_run.specs.Replying.{IsAlive}
use Rattle.script_run.proofs.Reading.{Reading}
use Rattle.script_run.proofs.pieces.play_script.Given as goal

abbrev pub invariant-loop-cutter : goal.invariant-loop-cutter
invariant-loop-cutter g l =
    let shown = g.B.Bridge.shown in
    Reading l.voice g.S.Source.left g.S.Source.faults g.S.Source.is_reliable g.K.Sink.holds g.K.Sink.faults g.K.Sink.is_reliable
    (state_of shown l.fn.network) (state_of shown l.network) l.number l.cutter l.fn.source l.source l.fn.sink l.sink l.read
    × (most_piece ≤ length l.buffer) × IsAlive shown l.network

abbrev pub decreases-loop-cutter : goal.decreases-loop-cutter
decreases-loop-cutter g l = 8388609 - l.read
