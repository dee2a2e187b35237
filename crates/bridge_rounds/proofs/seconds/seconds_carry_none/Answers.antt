use Rattle.bridge_rounds.proofs.SecondsSent.{seconds_carry_none}
use Rattle.bridge_rounds.proofs.seconds.seconds_carry_none.Goals as goal

pub returns : goal.returns
returns c = seconds_carry_none
