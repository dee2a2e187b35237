use Rattle.std.proofs.Common.{is_eq, ap, ◌∙◌, sym}
use Rattle.ect_trees.proofs.Lesser.{firsts_decide}
use Rattle.ect_trees.proofs.ways.compare_if_some.Goals as goal

pub returns-in-Some-Some : goal.returns-in-Some-Some
returns-in-Some-Some c =
    let order = c.compare_masked.ensures in
    λ ids others e f differ.
    order ∙ firsts_decide c.in-Some-Some.least c.in-Some-Some.other (sym (ap is_eq order) ∙ differ) ids others (e ∙ c.in-Some-Some.is-0) (f ∙ c.in-Some-Some.is-1)
