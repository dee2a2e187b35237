use Rattle.flooding.proofs.SendableEntries.{read_is_whole, claim_is_numbered, lsp_keeps_sendable, entry_keeps_sendable, bringing_keeps_sendable, ageing_keeps_sendable, flags_sendable}
use Rattle.flooding.proofs.laws.what_is_held_can_be_sent.Goals as goal

pub returns : goal.returns
returns c = record {
  read = read_is_whole;
  numbered = claim_is_numbered;
  lsp = lsp_keeps_sendable;
  entry = entry_keeps_sendable;
  bringing = bringing_keeps_sendable;
  ageing = ageing_keeps_sendable;
  flags = flags_sendable;
}
