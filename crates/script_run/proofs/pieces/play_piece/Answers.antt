use Rattle.std.proofs.Common.{◌≡◌, ◌<◌, length, [], Ok, refl, ap, subst, arith}
use Rattle.std.proofs.lemmas.Bool.Decides.{nat_tests}
use Rattle.std.proofs.lemmas.List.{take_rest}
use Rattle.std.proofs.lemmas.Result.{err_from_is_err_and}
use Rattle.spb_network.specs.Network.{state_of}
use Rattle.script_run.specs.declared.status.Status.{Status}
use Rattle.script_run.specs.Pieces.{Ends}
use Rattle.script_run.proofs.Going.{goes_nothing, piece_within, piece_breaks_here, piece_breaks, piece_ends, piece_more, piece_smaller}
use Rattle.script_run.proofs.pieces.play_piece.Goals as goal

pub loop-rest-init : goal.loop-rest-init
loop-rest-init g c = (
  record {
    front = [];
    split = refl;
    goes = goes_nothing c.args.voice g.K.Sink.holds (state_of g.B.Bridge.shown c.args.network.now) c.args.number.now c.args.cutter.now c.args.sink.now;
    stands = c.requires.stands;
    count = omega arith;
    reliable = λ h. h;
  },
  c.requires.alive,
)

pub returns-in_err-cut-clause-breaks : goal.returns-in_err-cut-clause-breaks
returns-in_err-cut-clause-breaks g c =
    let p = err_from_is_err_and c.from_residual.result c.from_residual.ensures.1 in
    rw p.1 (piece_breaks_here c.args.voice g.K.Sink.holds g.K.Sink.faults g.K.Sink.is_reliable _ _ _ _ _ _ _ _ _ _ c.requires.stands.going c.loop-rest.invariant.0)

pub returns-in_err-status-clause-breaks : goal.returns-in_err-status-clause-breaks
returns-in_err-status-clause-breaks g c =
    let p = err_from_is_err_and c.from_residual-in_err-status.result c.from_residual-in_err-status.ensures.1 in
    rw p.1 (piece_breaks c.args.voice g.K.Sink.holds g.K.Sink.faults g.K.Sink.is_reliable _ _ _ _ _ _ _ _ _ _ c.requires.stands.going c.loop-rest.invariant.0 c.in_ok-cut.cut _ c.in_ok-cut.ensures.exact c.answer_cut.new.sink c.in_err-status.ensures.front)

pub returns-in-Some-clause-ends : goal.returns-in-Some-clause-ends
returns-in-Some-clause-ends g c status is =
    let same : c.in-Some.status ≡ status = cc in
    let shown = g.B.Bridge.shown in
    subst (λ (st : Status). Ends c.args.voice g.K.Sink.holds c.args.piece.now st (state_of shown c.args.network.now) (state_of shown c.answer_cut.new.network) c.args.number.now c.args.cutter.now c.args.sink.now c.answer_cut.new.sink) same
    (piece_ends c.args.voice g.K.Sink.holds g.K.Sink.faults g.K.Sink.is_reliable _ _ _ _ _ _ _ _ _ _ c.requires.stands.going c.loop-rest.invariant.0 c.in_ok-cut.cut _ c.in_ok-cut.ensures.exact c.in-Some.status (state_of shown c.answer_cut.new.network) c.answer_cut.new.sink
    (c.in_ok-status.ensures.ends c.in-Some.status (ap Ok c.in-Some.is)))

pub slice_bounds-rest-count : goal.slice_bounds-rest-count
slice_bounds-rest-count g c = piece_within c.args.voice g.K.Sink.holds g.K.Sink.faults g.K.Sink.is_reliable _ _ _ _ _ _ _ _ _ _ c.requires.stands.going c.loop-rest.invariant.0 c.in_ok-cut.cut _ c.in_ok-cut.ensures.exact

pub slice_bounds-rest-start : goal.slice_bounds-rest-start
slice_bounds-rest-start g c = piece_within c.args.voice g.K.Sink.holds g.K.Sink.faults g.K.Sink.is_reliable _ _ _ _ _ _ _ _ _ _ c.requires.stands.going c.loop-rest.invariant.0 c.in_ok-cut.cut _ c.in_ok-cut.ensures.exact

pub loop-rest-smaller : goal.loop-rest-smaller
loop-rest-smaller g c =
    let some : 0 < length c.loop-rest.rest.now = grind (arith, nat_tests, c.loop-rest-test.true, c.is_empty.ensures) in
    simp take_rest (piece_smaller c.args.voice g.K.Sink.holds g.K.Sink.faults g.K.Sink.is_reliable _ _ _ _ _ _ _ _ _ _ c.requires.stands.going c.loop-rest.invariant.0 c.in_ok-cut.cut _ c.in_ok-cut.ensures.exact _ _ _ (c.in_ok-status.ensures.goes_on (ap Ok c.in_default.is)) some)

pub loop-rest-preserved : goal.loop-rest-preserved
loop-rest-preserved g c = (
  simp take_rest (piece_more c.args.voice g.K.Sink.holds g.K.Sink.faults g.K.Sink.is_reliable _ _ _ _ _ _ _ _ _ _ c.requires.stands.going c.loop-rest.invariant.0 c.in_ok-cut.cut _ c.in_ok-cut.ensures.exact _ _ _ (c.in_ok-status.ensures.goes_on (ap Ok c.in_default.is)) c.in_ok-status.ensures.count (λ h. (c.in_ok-status.ensures.reliable h).1)),
  c.in_ok-status.ensures.alive,
)
