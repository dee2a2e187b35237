use Rattle.std.proofs.Common.{◌≡◌, Some, None, refl, sym, subst, ◌∙◌, arith}
use Rattle.std.proofs.lemmas.Result.{on_ok_weaker}
use Rattle.ect_trees.specs.Search.{graph_of, Improves}
use Rattle.ect_trees.specs.Search.IsRelaxed.{none, same, lower}
use Rattle.ect_trees.proofs.Places.{at_within}
use Rattle.ect_trees.proofs.Relaxed.{read_label}
use Rattle.ect_trees.proofs.search.Search.relax.Goals as goal
use Rattle.ect_trees.proofs.search.Search.relax.Goals.{in-None, in-Some+in_ok-better-in-Some}

pub better-requires-clause-arc : goal.better-requires-clause-arc
better-requires-clause-arc c =
    let s = c.args.self.now in
    let h = c.requires.arc in
    (h.0, h.1, h.2, c.requires.state.labels.each c.args.arc.from h.0 c.in-Some.label h.2.from (read_label s c.args.labels.now.items c.args.arc.from h.0 c.index.result.now c.requires.state.labels h.2.from c.index.ensures ∙ c.in-Some.is))

pub better-requires-clause-old : goal.better-requires-clause-old
better-requires-clause-old c = λ y l here e.
    c.requires.state.labels.each c.args.arc.to y l here (read_label c.args.self.now c.args.labels.now.items c.args.arc.to y c.index-in-Some.result.now c.requires.state.labels here c.index-in-Some.ensures ∙ e)

pub set_label-requires-clause-within : goal.set_label-requires-clause-within
set_label-requires-clause-within c =
    let within = at_within (graph_of c.args.self.now) c.args.arc.to c.requires.arc.1 c.requires.arc.2.to in
    omega (arith, within, c.requires.state.labels.places)

pub returns-in-None-better : goal.returns-in-None-better
returns-in-None-better c =
    let s = c.args.self.now in
    let ls = c.args.labels.now.items in
    let h = c.requires.arc in
    let labels = c.requires.state.labels in
    let from = read_label s ls c.args.arc.from h.0 c.index.result.now labels h.2.from c.index.ensures in
    elim c.match-index.branch [
      | in-None w ↦ none refl refl (from ∙ w.in-None.is)
      | in-Some+in_ok-better-in-Some w ↦
          let to = read_label s ls c.args.arc.to h.1 w.index-in-Some.result.now labels h.2.to w.index-in-Some.ensures in
          let nothing : w.in_ok-better-in-Some.better ≡ None = sym w.better-is ∙ c.in-None-better.is in
          same refl refl w.in-Some.label (from ∙ w.in-Some.is)
          (subst (λ o. Improves s c.args.arc w.in-Some.label o None) (sym to) (subst (Improves s c.args.arc w.in-Some.label w.index-in-Some.result.now) nothing w.in_ok-better-in-Some.ensures))
    ]

pub returns-in-Some-better : goal.returns-in-Some-better
returns-in-Some-better c =
    let s = c.args.self.now in
    let ls = c.args.labels.now.items in
    let h = c.requires.arc in
    let labels = c.requires.state.labels in
    let from = read_label s ls c.args.arc.from h.0 c.index.result.now labels h.2.from c.index.ensures in
    elim c.match-index.branch [
      | in-None w ↦ let nothing : None ≡ Some c.in-Some-better.new = sym w.better-is ∙ c.in-Some-better.is in absurd (cc)
      | in-Some+in_ok-better-in-Some w ↦
          let to = read_label s ls c.args.arc.to h.1 w.index-in-Some.result.now labels h.2.to w.index-in-Some.ensures in
          let found : w.in_ok-better-in-Some.better ≡ Some c.in-Some-better.new = sym w.better-is ∙ c.in-Some-better.is in
          on_ok_weaker c.set_label.result
          (λ done. lower w.in-Some.label (from ∙ w.in-Some.is) c.in-Some-better.new
          (subst (λ o. Improves s c.args.arc w.in-Some.label o (Some c.in-Some-better.new)) (sym to) (subst (Improves s c.args.arc w.in-Some.label w.index-in-Some.result.now) found w.in_ok-better-in-Some.ensures)) done)
          c.set_label.ensures
    ]
