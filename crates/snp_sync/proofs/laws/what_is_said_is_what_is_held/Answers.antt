use Rattle.snp_sync.proofs.Said.{entry_claims_what_is_held, csnp_chunks_claim_what_is_held, psnp_chunks_claim_what_is_held, csnp_chunks_list_what_is_held, psnp_chunks_list_what_is_held}
use Rattle.snp_sync.proofs.laws.what_is_said_is_what_is_held.Goals as goal

pub returns : goal.returns
returns c = record { entry = entry_claims_what_is_held; csnp_chunks = csnp_chunks_claim_what_is_held; chunks = psnp_chunks_claim_what_is_held; csnp_chunks_held = csnp_chunks_list_what_is_held; psnp_chunks_held = psnp_chunks_list_what_is_held }
