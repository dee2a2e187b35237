use Rattle.snp_sync.proofs.IdNumbers.{successor_is_next, successor_is_id}
use Rattle.snp_sync.proofs.laws.the_successor_is_next.Goals as goal

pub returns : goal.returns
returns c = record { next = successor_is_next; id = successor_is_id }
