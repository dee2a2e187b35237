use Rattle.snp_sync.proofs.Ranges.{psnp_chunks_are_whole, psnp_chunks_are_short}
use Rattle.snp_sync.proofs.Said.{ssn_is_cleared, clearing_ssn_is_certified}
use Rattle.snp_sync.proofs.laws.psnps_list_all_with_ssn.Goals as goal

pub returns : goal.returns
returns c = record { whole = psnp_chunks_are_whole; short = psnp_chunks_are_short; ssn_cleared = ssn_is_cleared; certified = clearing_ssn_is_certified }
