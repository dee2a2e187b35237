use Rattle.scenario_maker.proofs.Places.{names_are_apart}
use Rattle.scenario_maker.proofs.laws.names_are_apart.Goals as goal

pub returns : goal.returns
returns c = names_are_apart
