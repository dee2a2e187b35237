use Rattle.std.proofs.Common.{sym, ◌∙◌}
use Rattle.ect_trees.proofs.KeyOrder.{key_cmp-snoc}
use Rattle.ect_trees.proofs.laws.one_more_bridge_keeps_order.Goals as goal

pub returns : goal.returns
returns c g mask a b x y p q v w = let e = key_cmp-snoc g mask a b x y p q v w in ((λ h. e ∙ h), (λ h. sym e ∙ h))
