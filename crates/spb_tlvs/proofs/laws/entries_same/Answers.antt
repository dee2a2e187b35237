use Rattle.spb_tlvs.proofs.EntryLaws.{entries_same}
use Rattle.spb_tlvs.proofs.laws.entries_same.Goals as goal

pub returns : goal.returns
returns c = entries_same
