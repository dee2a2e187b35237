use Rattle.bridge_rounds.proofs.CalmLives.{calm_goes_on, ages_add}
use Rattle.bridge_rounds.proofs.CalmSent.{calm_second_greets, calm_second_is_silent}
use Rattle.bridge_rounds.proofs.CalmRounds.{calm_round_ages}
use Rattle.bridge_rounds.proofs.SomeCalm.{some_bridge_is_calm}
use Rattle.bridge_rounds.proofs.calm.calm_seconds_pass.Goals as goal

pub returns-clause-ages : goal.returns-clause-ages
returns-clause-ages c = calm_round_ages

pub returns-clause-greets : goal.returns-clause-greets
returns-clause-greets c = calm_second_greets c.control_again.ensures

pub returns-clause-silent : goal.returns-clause-silent
returns-clause-silent c = calm_second_is_silent

pub returns-clause-goes_on : goal.returns-clause-goes_on
returns-clause-goes_on c = calm_goes_on

pub returns-clause-adds : goal.returns-clause-adds
returns-clause-adds c = ages_add

pub returns-clause-some : goal.returns-clause-some
returns-clause-some c = some_bridge_is_calm c.control_again.ensures
