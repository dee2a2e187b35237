use Rattle.extra_answers.proofs.Passed.{proofs_pass}
use Rattle.extra_answers.proofs.laws.proofs_pass.Goals as goal

pub returns : goal.returns
returns c = proofs_pass
