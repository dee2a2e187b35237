use Rattle.network_rounds.proofs.SteadyRounds.{links_come_up, rounds_are_steady}
use Rattle.network_rounds.proofs.steady.links_come_up.Goals as goal

pub returns-clause-up : goal.returns-clause-up
returns-clause-up c = links_come_up

pub returns-clause-steady : goal.returns-clause-steady
returns-clause-steady c = rounds_are_steady
