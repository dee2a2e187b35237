use Rattle.bridge_laws.proofs.Dropped.{dropped_frames_count_once, heard_frames_count_entries, entries_without_way_count_once, other_entries_count_nothing, other_steps_count_nothing, some_drops}
use Rattle.bridge_laws.proofs.laws.dropped_frames_are_counted.Goals as goal

pub returns-clause-dropped : goal.returns-clause-dropped
returns-clause-dropped c = dropped_frames_count_once

pub returns-clause-heard : goal.returns-clause-heard
returns-clause-heard c = heard_frames_count_entries

pub returns-clause-without_way : goal.returns-clause-without_way
returns-clause-without_way c = entries_without_way_count_once

pub returns-clause-entries : goal.returns-clause-entries
returns-clause-entries c = other_entries_count_nothing

pub returns-clause-others : goal.returns-clause-others
returns-clause-others c = other_steps_count_nothing

pub returns-clause-some : goal.returns-clause-some
returns-clause-some c = some_drops
