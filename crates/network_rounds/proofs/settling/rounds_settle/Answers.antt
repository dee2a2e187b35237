use Rattle.network_rounds.proofs.Flagged.{flags_fall}
use Rattle.network_rounds.proofs.Quieting.{rounds_settle}
use Rattle.network_rounds.proofs.settling.rounds_settle.Goals as goal

pub returns : goal.returns
returns c = rounds_settle (flags_fall c.control_again.ensures)
