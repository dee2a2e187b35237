use Rattle.std.proofs.Common.{take, take-append-drop}
use Rattle.std.proofs.lemmas.List.{take_rest}
use Rattle.script_run.proofs.Writing.{Writing-more}
use Rattle.script_run.proofs.output.write_all.Goals as goal

pub loop-rest-preserved : goal.loop-rest-preserved
loop-rest-preserved g c =
    let taken = c.in_ok-taken.taken in
    let rest = c.loop-rest.rest.now in
    Writing-more g.K.Sink.holds g.K.Sink.faults g.K.Sink.is_reliable c.args.sink.now c.loop-rest.sink c.write.new.self c.args.bytes.now (take taken rest) _
    (simp (take_rest, take-append-drop) c.loop-rest.invariant) c.in_ok-taken.ensures.bytes c.in_ok-taken.ensures.count (λ h. (c.in_ok-taken.ensures.reliable h).1)
