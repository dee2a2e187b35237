use Rattle.flooding.proofs.Steps.{hearing_lsp, hearing_entry, answering}
use Rattle.flooding.proofs.Brought.{bringing}
use Rattle.flooding.proofs.laws.flooding_is_certified.Goals as goal

pub returns : goal.returns
returns c = record { lsp = hearing_lsp; entry = hearing_entry; answer = answering; bringing = bringing }
