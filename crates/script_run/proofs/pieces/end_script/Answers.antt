use Rattle.std.proofs.Common.{Ok, ap}
use Rattle.spb_network.specs.Network.{state_of}
use Rattle.std.proofs.lemmas.Result.{err_from_is_err_and}
use Rattle.script_run.proofs.Going.{end_front, end_stops, end_goes_on}
use Rattle.script_run.proofs.pieces.end_script.Goals as goal

pub returns-in_err-status-clause-front : goal.returns-in_err-status-clause-front
returns-in_err-status-clause-front g c =
    let p = err_from_is_err_and c.from_residual.result c.from_residual.ensures.1 in
    rw p.1 (end_front c.args.voice g.K.Sink.holds (state_of g.B.Bridge.shown c.args.network.now) (state_of g.B.Bridge.shown c.answer_cut.new.network) c.args.number.now c.answer_cut.new.number _ _ _ _ _ c.requires.stands.going c.end-what.ensures c.in_err-status.ensures.front)

pub returns-in-Some-clause-ends : goal.returns-in-Some-clause-ends
returns-in-Some-clause-ends g c =
    end_stops c.args.voice g.K.Sink.holds (state_of g.B.Bridge.shown c.args.network.now) (state_of g.B.Bridge.shown c.answer_cut.new.network) c.args.number.now c.answer_cut.new.number _ _ _ _ _ c.requires.stands.going c.end-what.ensures _ (c.in_ok-status.ensures.ends _ (ap Ok c.in-Some.is))

pub returns-in-None-clause-ends : goal.returns-in-None-clause-ends
returns-in-None-clause-ends g c =
    end_goes_on c.args.voice g.K.Sink.holds (state_of g.B.Bridge.shown c.args.network.now) (state_of g.B.Bridge.shown c.answer_cut.new.network) c.args.number.now c.answer_cut.new.number _ _ _ _ _ c.requires.stands.going c.end-what.ensures (c.in_ok-status.ensures.goes_on (ap Ok c.in-None.is))
