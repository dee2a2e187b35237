use Rattle.bridge_api.proofs.Meeting.{neighbours_come_up, some_bridge}
use Rattle.bridge_laws.proofs.laws.neighbours_come_up.Goals as goal

pub returns-clause-up : goal.returns-clause-up
returns-clause-up c = neighbours_come_up c.control_again.ensures

pub returns-clause-some : goal.returns-clause-some
returns-clause-some c = some_bridge c.control_again.ensures
