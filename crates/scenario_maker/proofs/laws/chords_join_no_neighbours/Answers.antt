use Rattle.scenario_maker.proofs.Places.{chords_are_no_ring_links}
use Rattle.scenario_maker.proofs.laws.chords_join_no_neighbours.Goals as goal

pub returns : goal.returns
returns c = chords_are_no_ring_links
