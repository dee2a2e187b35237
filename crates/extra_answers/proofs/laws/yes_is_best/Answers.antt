use Rattle.extra_answers.proofs.Checked.{yes_is_best}
use Rattle.extra_answers.proofs.laws.yes_is_best.Goals as goal

pub returns : goal.returns
returns c = yes_is_best
