use Rattle.std.proofs.lemmas.Result.{err_from_is_err_and}
use Rattle.settle_laws.proofs.Ending.{round_fails}
use Rattle.settle_laws.proofs.settling.play_round.Goals as goal

pub returns-in_err-answer-clause-round : goal.returns-in_err-answer-clause-round
returns-in_err-answer-clause-round g c =
    let p = err_from_is_err_and c.from_residual.result c.from_residual.ensures.1 in
    rw (p.1, p.2) (round_fails g.B.Bridge.shown c.args.network.now c.apply_round.new.network c.args.outs.now.items _ c.requires.halted c.requires.room c.in_err-answer.ensures.applies)
