use Rattle.spb_tlvs.proofs.CapabilityLaws.{capability_same}
use Rattle.spb_tlvs.proofs.laws.capability_same.Goals as goal

pub returns : goal.returns
returns c = capability_same
