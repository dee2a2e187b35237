use Rattle.report.proofs.PortsListed.{ports_are_listed}
use Rattle.report.proofs.laws.ports_are_those_of_the_set.Goals as goal

pub returns : goal.returns
returns c = ports_are_listed
