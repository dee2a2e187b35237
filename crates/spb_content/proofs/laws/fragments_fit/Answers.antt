use Rattle.spb_content.proofs.Fitting.{fragments_fit}
use Rattle.spb_content.proofs.laws.fragments_fit.Goals as goal

pub returns : goal.returns
returns c = fragments_fit
