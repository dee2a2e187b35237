use Rattle.scenario_maker.proofs.Places.{chords_lead_across}
use Rattle.scenario_maker.proofs.laws.chords_lead_across.Goals as goal

pub returns : goal.returns
returns c = chords_lead_across
