use Rattle.std.proofs.lemmas.Result.{IfOk-weaker}
use Rattle.ect_trees.proofs.Tried.{ways_are_best}
use Rattle.ect_trees.proofs.trial.verdict_of.Goals as goal

pub returns-then-are_ways : goal.returns-then-are_ways
returns-then-are_ways c =
    let w = c.args.ways.now in
    IfOk-weaker c.verdict_of_all.result _ _ (λ v places. ways_are_best w.mesh.now w.mask c.args.source w.steps.now v (c.are_ways.ensures c.if-are_ways.true) places) c.verdict_of_all.ensures
