use Rattle.flooding.proofs.FlagEntries.{lsp_keeps_flags, entry_keeps_flags, bringing_keeps_flags}
use Rattle.flooding.proofs.laws.flags_stand_at_up_ports.Goals as goal

pub returns : goal.returns
returns c = record { lsp = lsp_keeps_flags; entry = entry_keeps_flags; bringing = bringing_keeps_flags }
