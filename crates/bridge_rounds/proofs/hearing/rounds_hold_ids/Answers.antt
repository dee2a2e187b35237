use Rattle.bridge_rounds.proofs.BroughtIds.{rounds_hold_ids}
use Rattle.bridge_rounds.proofs.hearing.rounds_hold_ids.Goals as goal

pub returns : goal.returns
returns c = rounds_hold_ids
