use Rattle.std.proofs.Common.{◌≡◌, ◌↔◌, sym, subst, ap, ◌∙◌}
use Rattle.std.proofs.lemmas.Result.{IfOk-weaker}
use Rattle.spb_types.specs.declared.graph.Graph.{Graph}
use Rattle.what_if.specs.declared.checking.Verdict.{Verdict}
use Rattle.what_if.specs.declared.checking.Verdict.TheVariants.{Yes}
use Rattle.what_if.specs.Entries.{best_entries}
use Rattle.what_if.specs.Failing.{verdict_of}
use Rattle.what_if.proofs.Proved.{yes_is_best}
use Rattle.what_if.proofs.checking.check.Goals as goal

pub returns-clause-yes : goal.returns-clause-yes
returns-clause-yes c =
    let g = c.args.roads.now in
    let es = c.args.entries.now in
    let mask = c.args.mask in
    let from = c.args.from in
    IfOk-weaker c.verdict.result _ _ (λ (v : Verdict) told.
    let is : v ≡ verdict_of g mask es from = told ∙ ap (λ (t : Graph). verdict_of t mask es from) c.mesh-2.ensures.same in
    subst (λ t. (t ≡ Yes) ↔ (es ≡ best_entries g mask from)) (sym is) (yes_is_best g mask es from c.requires.valid c.requires.from c.requires.long)) c.verdict.ensures
