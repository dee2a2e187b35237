use Rattle.network_model.proofs.Brief.{seen_is_brief}
use Rattle.network_model.proofs.laws.deliveries_are_brief.Goals as goal

pub returns : goal.returns
returns c = seen_is_brief
