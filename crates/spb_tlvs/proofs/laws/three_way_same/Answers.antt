use Rattle.spb_tlvs.proofs.ThreeWayLaws.{three_way_same}
use Rattle.spb_tlvs.proofs.laws.three_way_same.Goals as goal

pub returns : goal.returns
returns c = three_way_same
