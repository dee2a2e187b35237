use Rattle.lsdb.proofs.Order.{join_is_above, join_is_least, confused_join_is_dead}
use Rattle.lsdb.proofs.laws.join_is_least_upper_bound.Goals as goal

pub returns : goal.returns
returns c = record { above = join_is_above; least = join_is_least; confused = confused_join_is_dead }
