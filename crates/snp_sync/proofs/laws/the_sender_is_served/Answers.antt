use Rattle.snp_sync.proofs.Served.{unnamed_stands, last_claim_stands, entry_is_served, csnp_stands, missed_is_sent}
use Rattle.snp_sync.proofs.laws.the_sender_is_served.Goals as goal

pub returns : goal.returns
returns c = record { unnamed = unnamed_stands; last = last_claim_stands; entry = entry_is_served; csnp = csnp_stands; missed = missed_is_sent }
