use Rattle.bridge_rounds.proofs.FlagAcked.{lsp_is_acked}
use Rattle.bridge_rounds.proofs.flags.lsps_are_acknowledged.Goals as goal

pub returns : goal.returns
returns c = lsp_is_acked
