use Rattle.scenario_maker.proofs.Lengths.{made_is_long}
use Rattle.scenario_maker.proofs.laws.scripts_are_long.Goals as goal

pub returns : goal.returns
returns c = made_is_long
