use Rattle.bridge_rounds.proofs.DueSummaries.{summaries_are_due}
use Rattle.bridge_rounds.proofs.seconds.summaries_are_due.Goals as goal

pub returns : goal.returns
returns c = summaries_are_due c.control_again.ensures
