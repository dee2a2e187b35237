use Rattle.adjacency.proofs.Time.{kept_while_counting, lost_after_count, nobody_comes}
use Rattle.adjacency.proofs.laws.a_silent_neighbour_is_kept_for_its_count.Goals as goal

pub returns-clause-kept : goal.returns-clause-kept
returns-clause-kept c = kept_while_counting

pub returns-clause-lost : goal.returns-clause-lost
returns-clause-lost c = lost_after_count

pub returns-clause-idle : goal.returns-clause-idle
returns-clause-idle c = nobody_comes
