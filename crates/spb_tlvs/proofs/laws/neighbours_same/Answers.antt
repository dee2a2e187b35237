use Rattle.spb_tlvs.proofs.NeighbourLaws.{neighbours_same}
use Rattle.spb_tlvs.proofs.laws.neighbours_same.Goals as goal

pub returns : goal.returns
returns c = neighbours_same
