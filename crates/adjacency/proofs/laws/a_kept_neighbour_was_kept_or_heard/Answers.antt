use Rattle.adjacency.proofs.Neighbours.{hello_keeps}
use Rattle.adjacency.proofs.laws.a_kept_neighbour_was_kept_or_heard.Goals as goal

pub returns-clause-hello : goal.returns-clause-hello
returns-clause-hello c = hello_keeps
