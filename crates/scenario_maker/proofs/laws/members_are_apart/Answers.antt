use Rattle.scenario_maker.proofs.Places.{members_are_apart}
use Rattle.scenario_maker.proofs.laws.members_are_apart.Goals as goal

pub returns : goal.returns
returns c = members_are_apart
