use Rattle.snp_sync.proofs.Fields.{entries_keep_sized, csnp_keeps_sized, lsp_keeps_sized, origination_keeps_sized, settling_keeps_sized, starting_keeps_sized, ageing_keeps_sized, flags_keep_sized}
use Rattle.snp_sync.proofs.laws.entries_stay_writable.Goals as goal

pub returns : goal.returns
returns c = record {
  entries = entries_keep_sized;
  csnp = csnp_keeps_sized;
  lsp = lsp_keeps_sized;
  origination = origination_keeps_sized;
  settling = settling_keeps_sized;
  starting = starting_keeps_sized;
  ageing = ageing_keeps_sized;
  flags = flags_keep_sized;
}
