use Rattle.std.proofs.Common.{◌≡◌, ◌==◌, Some, IfSome, sym, ap, ◌∙◌, subst}
use Rattle.spb_tlvs.specs.Capability.{IsTree}
use Rattle.extra_answers.specs.Answers.{planned_for}
use Rattle.extra_answers.proofs.Plans.{found_is}
use Rattle.extra_answers.proofs.naming.planned_for.Goals as goal

pub returns-in-Some-clause-tree : goal.returns-in-Some-clause-tree
returns-in-Some-clause-tree c =
    let vids = c.args.world.now.vids in
    let found : Some c.in-Some.plan.now ≡ planned_for vids c.args.vid = c.in-Some.ensures ∙ ap (λ l. planned_for l c.args.vid) c.vids.ensures in
    subst (λ o. IfSome o IsTree) (sym found) (found_is IsTree (λ plan. plan.vid.value == c.args.vid) vids c.requires.each_vid)
