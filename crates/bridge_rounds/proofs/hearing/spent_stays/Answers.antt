use Rattle.bridge_rounds.proofs.SpentNumbers.{spent_stays}
use Rattle.bridge_rounds.proofs.hearing.spent_stays.Goals as goal

pub returns : goal.returns
returns c = spent_stays
