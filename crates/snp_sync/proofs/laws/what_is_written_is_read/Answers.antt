use Rattle.snp_sync.proofs.Said.{csnp_is_read, psnp_is_read, entries_are_read, csnp_entries_are_read, psnp_entries_are_read, csnp_entries_are_sized, psnp_entries_are_sized}
use Rattle.snp_sync.proofs.laws.what_is_written_is_read.Goals as goal

pub returns : goal.returns
returns c = record { csnp = csnp_is_read; psnp = psnp_is_read; entries = entries_are_read; csnp_chunks = csnp_entries_are_read; chunks = psnp_entries_are_read; sized_csnp_chunks = csnp_entries_are_sized; sized_psnp_chunks = psnp_entries_are_sized }
