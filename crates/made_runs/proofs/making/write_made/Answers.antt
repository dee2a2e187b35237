use Rattle.std.proofs.lemmas.Result.{err_from_is_err_and}
use Rattle.made_runs.specs.Making.{made_text}
use Rattle.script_run.proofs.Writing.{AppendsFront-nil}
use Rattle.made_runs.proofs.making.write_made.Goals as goal

pub returns-in_err-script-clause-front : goal.returns-in_err-script-clause-front
returns-in_err-script-clause-front g c =
    let p = err_from_is_err_and c.from_residual.result c.from_residual.ensures.1 in
    rw p.1 (AppendsFront-nil (g.K.Sink.holds c.args.sink.now) (made_text c.args.bridges))
