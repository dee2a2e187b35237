use Rattle.forwarding.proofs.Apart.{leaves_where_it_is_received, delivered_where_it_is_received}
use Rattle.forwarding.proofs.laws.frames_leave_where_they_are_received.Goals as goal

pub returns-clause-leaves : goal.returns-clause-leaves
returns-clause-leaves c = leaves_where_it_is_received

pub returns-clause-delivered : goal.returns-clause-delivered
returns-clause-delivered c = delivered_where_it_is_received
