use Rattle.spb_tlvs.proofs.ThreeWayLaws.{three_way_again}
use Rattle.spb_tlvs.proofs.laws.three_way_again.Goals as goal

pub returns : goal.returns
returns c = three_way_again
