use Rattle.std.proofs.Common.{subst}
use Rattle.std.specs.Bool.{MatchBool}
use Rattle.ect_trees.specs.Repair.{Avoids}
use Rattle.ect_trees.proofs.Forgetting.{tells_lost}
use Rattle.ect_trees.proofs.repair.is_lost.Goals as goal

pub returns-in-Some : goal.returns-in-Some
returns-in-Some c =
    let a = c.args.a in
    let b = c.args.b in
    tells_lost a b c.args.label.now c.in-Some.label c.steps_over.result c.in-Some.is
    (subst (λ xs. MatchBool c.steps_over.result (Avoids a b xs → ⊥) (Avoids a b xs)) c.as_slice.ensures.value c.steps_over.ensures)
