use Rattle.snp_sync.proofs.Ranges.{ranges_cover_once, csnp_chunks_list_their_ranges, csnp_chunks_are_short, csnp_chunks_end_at_ids}
use Rattle.snp_sync.proofs.laws.csnps_cover_each_id_once.Goals as goal

pub returns : goal.returns
returns c = record { once = ranges_cover_once; lists = csnp_chunks_list_their_ranges; short = csnp_chunks_are_short; ends = csnp_chunks_end_at_ids }
