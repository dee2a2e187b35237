use Rattle.spb_content.proofs.Fitting.{few_are_one}
use Rattle.spb_content.proofs.laws.few_are_one.Goals as goal

pub returns : goal.returns
returns c = few_are_one
