use Rattle.network_rounds.proofs.Agreed.{origins_are_ahead, bridges_agree}
use Rattle.network_rounds.proofs.SteadyRounds.{links_come_up, rounds_are_steady}
use Rattle.network_rounds.proofs.agreement.bridges_come_to_agree.Goals as goal

pub returns-clause-ahead : goal.returns-clause-ahead
returns-clause-ahead c = origins_are_ahead links_come_up rounds_are_steady

pub returns-clause-agree : goal.returns-clause-agree
returns-clause-agree c = bridges_agree links_come_up rounds_are_steady
