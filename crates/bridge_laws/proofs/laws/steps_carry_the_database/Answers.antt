use Rattle.bridge_laws.proofs.StepsCarry.{steps_carry_database}
use Rattle.bridge_api.proofs.UpPorts.{up_ports_are_up}
use Rattle.bridge_laws.proofs.laws.steps_carry_the_database.Goals as goal

pub returns-clause-steps : goal.returns-clause-steps
returns-clause-steps c = steps_carry_database

pub returns-clause-up_ports : goal.returns-clause-up_ports
returns-clause-up_ports c = up_ports_are_up
