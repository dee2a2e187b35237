use Rattle.bridge_rounds.proofs.KeptPorts.{port_is_kept, round_is_kept}
use Rattle.bridge_rounds.proofs.inbox.neighbours_keep_up.Goals as goal

pub returns-clause-frames : goal.returns-clause-frames
returns-clause-frames c = port_is_kept

pub returns-clause-round : goal.returns-clause-round
returns-clause-round c = round_is_kept
