use Rattle.spb_tlvs.proofs.EntryLaws.{entries_again}
use Rattle.spb_tlvs.proofs.laws.entries_again.Goals as goal

pub returns : goal.returns
returns c = entries_again
