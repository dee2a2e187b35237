use Rattle.network_model.proofs.Convergence.{counted_quiet_is_converged, played_quiet_is_converged, show_is_true}
use Rattle.network_model.proofs.QuietWitness.{some_network_is_quiet}
use Rattle.network_model.proofs.laws.quiet_can_be_relied_on.Goals as goal

pub returns-clause-counted : goal.returns-clause-counted
returns-clause-counted c = counted_quiet_is_converged

pub returns-clause-always : goal.returns-clause-always
returns-clause-always c = played_quiet_is_converged

pub returns-clause-some : goal.returns-clause-some
returns-clause-some c = some_network_is_quiet

pub returns-clause-shown : goal.returns-clause-shown
returns-clause-shown c = show_is_true
