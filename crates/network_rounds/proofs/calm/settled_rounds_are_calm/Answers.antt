use Rattle.itag_frames.proofs.ControlLaws.{control_again}
use Rattle.network_rounds.specs.SettlingLaws.{RoundsSettle}
use Rattle.network_rounds.proofs.CalmQuiet.{quiet_passes_in_calm, settled_passes_in_calm}
use Rattle.network_rounds.proofs.CalmWitness.{some_network_is_calm}
use Rattle.network_rounds.proofs.Flagged.{flags_fall}
use Rattle.network_rounds.proofs.Quieting.{rounds_settle}
use Rattle.network_rounds.proofs.calm.settled_rounds_are_calm.Goals as goal

settle : RoundsSettle
settle = rounds_settle (flags_fall control_again)

pub returns-clause-quiet : goal.returns-clause-quiet
returns-clause-quiet c = quiet_passes_in_calm

pub returns-clause-settled : goal.returns-clause-settled
returns-clause-settled c = settled_passes_in_calm settle

pub returns-clause-some : goal.returns-clause-some
returns-clause-some c = some_network_is_calm settle
