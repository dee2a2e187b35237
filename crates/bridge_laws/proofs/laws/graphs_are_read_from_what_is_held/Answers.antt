use Rattle.bridge_api.proofs.GraphRead.{reads_what_is_held, reads_each_once}
use Rattle.bridge_laws.proofs.OthersRead.{reads_others, reads_itself}
use Rattle.bridge_laws.proofs.SaidNeighbours.{says_its_neighbours}
use Rattle.bridge_laws.proofs.SaidMembers.{members_are_said}
use Rattle.bridge_api.proofs.OwnRead.{own_ports_are_apart}
use Rattle.bridge_laws.proofs.laws.graphs_are_read_from_what_is_held.Goals as goal

pub returns-clause-held : goal.returns-clause-held
returns-clause-held c = reads_what_is_held

pub returns-clause-once : goal.returns-clause-once
returns-clause-once c = reads_each_once

pub returns-clause-own : goal.returns-clause-own
returns-clause-own c = reads_itself

pub returns-clause-ports : goal.returns-clause-ports
returns-clause-ports c = own_ports_are_apart

pub returns-clause-others : goal.returns-clause-others
returns-clause-others c = reads_others

pub returns-clause-neighbours : goal.returns-clause-neighbours
returns-clause-neighbours c = says_its_neighbours

pub returns-clause-members : goal.returns-clause-members
returns-clause-members c = members_are_said
