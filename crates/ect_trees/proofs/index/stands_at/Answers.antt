use Rattle.std.proofs.Common.{sym, ◌∙◌}
use Rattle.ect_trees.proofs.Places.{reads_at}
use Rattle.ect_trees.proofs.index.stands_at.Goals as goal

pub returns-then-place-bridges : goal.returns-then-place-bridges
returns-then-place-bridges c = λ h.
    reads_at c.args.graph.now c.as_slice-bridges.result.now c.args.place c.args.system c.as_slice-bridges.ensures c.if-place-bridges.true (sym c.is.ensures ∙ h)
