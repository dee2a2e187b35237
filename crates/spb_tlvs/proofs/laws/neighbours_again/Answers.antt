use Rattle.spb_tlvs.proofs.NeighbourLaws.{neighbours_again}
use Rattle.spb_tlvs.proofs.laws.neighbours_again.Goals as goal

pub returns : goal.returns
returns c = neighbours_again
