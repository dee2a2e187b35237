use Rattle.bridge_laws.proofs.FewHeld.{configured_holds_few, steps_hold_few, steps_bring_few}
use Rattle.bridge_laws.proofs.FewSent.{seconds_send_few, seconds_send_own}
use Rattle.bridge_laws.proofs.laws.few_are_held_and_sent.Goals as goal

pub returns-clause-configured : goal.returns-clause-configured
returns-clause-configured c = configured_holds_few

pub returns-clause-steps : goal.returns-clause-steps
returns-clause-steps c = steps_hold_few

pub returns-clause-brings : goal.returns-clause-brings
returns-clause-brings c = steps_bring_few

pub returns-clause-sent : goal.returns-clause-sent
returns-clause-sent c = seconds_send_few

pub returns-clause-own : goal.returns-clause-own
returns-clause-own c = seconds_send_own
