use Rattle.lsdb.proofs.Order.{follow, greater, one_number, not_at_most}
use Rattle.lsdb.proofs.laws.numbers_follow_the_order.Goals as goal

pub returns : goal.returns
returns c = record { follow = follow; greater = greater; same = one_number; not = not_at_most }
