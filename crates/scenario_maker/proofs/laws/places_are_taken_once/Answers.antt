use Rattle.scenario_maker.proofs.Places.{places_are_taken_once}
use Rattle.scenario_maker.proofs.laws.places_are_taken_once.Goals as goal

pub returns : goal.returns
returns c = places_are_taken_once
