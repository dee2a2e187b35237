use Rattle.network_model.proofs.QuietLaws.{quiet_says}
use Rattle.network_model.proofs.laws.quiet_says_what_it_reads_like.Goals as goal

pub returns : goal.returns
returns c = quiet_says
