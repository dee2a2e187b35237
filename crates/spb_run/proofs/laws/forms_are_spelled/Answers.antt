use Rattle.spb_run.proofs.Spelled.{forms_are_spelled}
use Rattle.spb_run.proofs.laws.forms_are_spelled.Goals as goal

pub returns : goal.returns
returns c = forms_are_spelled
