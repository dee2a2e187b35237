use Rattle.flooding.proofs.Settled.{settling_stands, settling_leaves_others, settling_leaves_own, settling_goes_one_further, settling_doesnt_spend, settling_brings_few, settling_renews, settling_spends}
use Rattle.flooding.proofs.laws.settling_changes_own_lsps_alone.Goals as goal

pub returns : goal.returns
returns c = record {
  stands = settling_stands;
  others = settling_leaves_others;
  own = settling_leaves_own;
  further = settling_goes_one_further;
  not_spent = settling_doesnt_spend;
  few = settling_brings_few;
  renews = settling_renews;
  spends = settling_spends;
}
