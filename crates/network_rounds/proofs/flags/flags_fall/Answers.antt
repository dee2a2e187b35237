use Rattle.network_rounds.proofs.Flagged.{flags_fall}
use Rattle.network_rounds.proofs.flags.flags_fall.Goals as goal

pub returns : goal.returns
returns c = flags_fall c.control_again.ensures
