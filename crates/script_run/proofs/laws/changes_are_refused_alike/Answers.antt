use Rattle.script_run.proofs.Foretold.{changes_are_refused_alike}
use Rattle.script_run.proofs.laws.changes_are_refused_alike.Goals as goal

pub returns : goal.returns
returns c = changes_are_refused_alike
