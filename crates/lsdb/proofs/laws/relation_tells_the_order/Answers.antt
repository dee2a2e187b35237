use Rattle.lsdb.proofs.Order.{older_is_below, newer_is_above, equal_is_same, confused_is_neither, confused_are_live}
use Rattle.lsdb.proofs.laws.relation_tells_the_order.Goals as goal

pub returns : goal.returns
returns c = record { older = older_is_below; newer = newer_is_above; equal = equal_is_same; confused = confused_is_neither; live = confused_are_live }
