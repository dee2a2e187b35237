use Rattle.spb_content.proofs.Again.{read_again}
use Rattle.spb_content.proofs.laws.content_again.Goals as goal

pub returns : goal.returns
returns c = read_again
