use Rattle.snp_sync.proofs.Stays.{entries_leave_own, entries_dont_spend, entries_leave_own_body, csnp_leaves_own_body, entries_keep_current, csnp_keeps_current}
use Rattle.snp_sync.proofs.laws.hearing_leaves_own_lsps.Goals as goal

pub returns : goal.returns
returns c = record { stands = entries_leave_own; not_spent = entries_dont_spend; body = entries_leave_own_body; csnp_body = csnp_leaves_own_body; current = entries_keep_current; csnp_current = csnp_keeps_current }
