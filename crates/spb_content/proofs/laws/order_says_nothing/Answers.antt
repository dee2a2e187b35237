use Rattle.spb_content.proofs.AnyOrder.{order_says_nothing}
use Rattle.spb_content.proofs.laws.order_says_nothing.Goals as goal

pub returns : goal.returns
returns c = order_says_nothing
