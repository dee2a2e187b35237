use Rattle.bridge_rounds.proofs.HelloMoves.{one_hello_moves, no_hello_stands}
use Rattle.bridge_rounds.proofs.Towards.{towards_kept}
use Rattle.bridge_rounds.proofs.inbox.hellos_move_adjacencies.Goals as goal

pub returns-clause-one : goal.returns-clause-one
returns-clause-one c = one_hello_moves

pub returns-clause-none : goal.returns-clause-none
returns-clause-none c = no_hello_stands

pub returns-clause-towards : goal.returns-clause-towards
returns-clause-towards c = towards_kept
