use Rattle.forwarding.proofs.Apart.{ingress_failure}
use Rattle.forwarding.proofs.laws.ingress_failure_changes_nothing.Goals as goal

pub returns : goal.returns
returns c = ingress_failure
