use Rattle.network_rounds.specs.SettlingLaws.{RoundsSettle}
use Rattle.network_rounds.proofs.Flagged.{flags_fall}
use Rattle.network_rounds.proofs.Quieting.{rounds_settle}
use Rattle.network_rounds.proofs.Settled.{commands_settle, networks_settle, played_networks_settle}
use Rattle.network_rounds.proofs.settling.networks_settle.Goals as goal

settle : goal.After-control_again → RoundsSettle
settle c = rounds_settle (flags_fall c.control_again.ensures)

pub returns-clause-command : goal.returns-clause-command
returns-clause-command c = commands_settle (settle c)

pub returns-clause-settling : goal.returns-clause-settling
returns-clause-settling c = networks_settle (settle c)

pub returns-clause-played : goal.returns-clause-played
returns-clause-played c = played_networks_settle (settle c)
