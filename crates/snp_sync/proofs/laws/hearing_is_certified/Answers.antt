use Rattle.snp_sync.proofs.Served.{entries_are_certified, csnp_is_certified}
use Rattle.snp_sync.proofs.laws.hearing_is_certified.Goals as goal

pub returns : goal.returns
returns c = record { entries = entries_are_certified; csnp = csnp_is_certified }
