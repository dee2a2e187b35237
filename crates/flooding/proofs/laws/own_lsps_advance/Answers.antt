use Rattle.flooding.proofs.Advancing.{advances_compose, lsp_advances, entry_advances, origination_advances, purge_advances, settling_advances, ageing_advances}
use Rattle.flooding.proofs.laws.own_lsps_advance.Goals as goal

pub returns : goal.returns
returns c = record {
  compose = advances_compose;
  lsp = lsp_advances;
  entry = entry_advances;
  origination = origination_advances;
  purge = purge_advances;
  settling = settling_advances;
  ageing = ageing_advances;
}
