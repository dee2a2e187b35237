use Rattle.spb_tlvs.proofs.CapabilityLaws.{capability_again}
use Rattle.spb_tlvs.proofs.laws.capability_again.Goals as goal

pub returns : goal.returns
returns c = capability_again
