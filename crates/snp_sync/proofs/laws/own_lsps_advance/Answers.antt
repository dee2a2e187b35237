use Rattle.snp_sync.proofs.Advancing.{entries_advance, csnp_advances}
use Rattle.snp_sync.proofs.laws.own_lsps_advance.Goals as goal

pub returns : goal.returns
returns c = record { entries = entries_advance; csnp = csnp_advances }
