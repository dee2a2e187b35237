use Rattle.bridge_rounds.proofs.FlagFolds.{nothing_is_offered, equal_is_cleared, nothing_is_asked}
use Rattle.bridge_rounds.proofs.flags.equal_claims_settle_flags.Goals as goal

pub returns-clause-offered : goal.returns-clause-offered
returns-clause-offered c = nothing_is_offered

pub returns-clause-cleared : goal.returns-clause-cleared
returns-clause-cleared c = equal_is_cleared

pub returns-clause-asked : goal.returns-clause-asked
returns-clause-asked c = nothing_is_asked
