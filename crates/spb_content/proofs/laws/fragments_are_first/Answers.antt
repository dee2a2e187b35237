use Rattle.spb_content.proofs.Parts.{fragments_are_first}
use Rattle.spb_content.proofs.laws.fragments_are_first.Goals as goal

pub returns : goal.returns
returns c = fragments_are_first
