use Rattle.flooding.proofs.Current.{settled_is_current, fresh_is_current, current_is_settled}
use Rattle.flooding.proofs.HeardCurrent.{lsp_keeps_current, entry_keeps_current}
use Rattle.flooding.proofs.laws.own_lsps_are_current.Goals as goal

pub returns : goal.returns
returns c = record {
  settled = settled_is_current;
  fresh = fresh_is_current;
  still = current_is_settled;
  lsp = lsp_keeps_current;
  entry = entry_keeps_current;
}
