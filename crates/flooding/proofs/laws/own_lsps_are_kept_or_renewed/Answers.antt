use Rattle.flooding.proofs.Owns.{own_stands, own_is_not_spent, lsp_leaves_own, entry_leaves_own}
use Rattle.flooding.proofs.Brought.{originated_stands, bringing_leaves_others, bringing_leaves_own, bringing_is_not_spent}
use Rattle.flooding.proofs.laws.own_lsps_are_kept_or_renewed.Goals as goal

pub returns : goal.returns
returns c = record {
  own = own_stands;
  not_spent = own_is_not_spent;
  lsp = lsp_leaves_own;
  entry = entry_leaves_own;
  originated = originated_stands;
  others = bringing_leaves_others;
  still_own = bringing_leaves_own;
  still_not_spent = bringing_is_not_spent;
}
