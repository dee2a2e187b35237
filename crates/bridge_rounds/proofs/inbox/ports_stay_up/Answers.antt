use Rattle.bridge_rounds.proofs.SaysSame.{bridge_says_the_same}
use Rattle.bridge_rounds.proofs.StayingUp.{port_stays_up}
use Rattle.bridge_rounds.proofs.inbox.ports_stay_up.Goals as goal

pub returns-clause-up : goal.returns-clause-up
returns-clause-up c = port_stays_up

pub returns-clause-says : goal.returns-clause-says
returns-clause-says c = bridge_says_the_same
