use Rattle.std.proofs.Common.{◌≡◌, None, refl, sym, ap, ◌∙◌, inl, inr, cond, false, true}
use Rattle.std.proofs.lemmas.List.{get_or_read}
use Rattle.std.specs.Ordering.{is_eq}
use Rattle.ect_trees.specs.Search.{label_at}
use Rattle.ect_trees.specs.declared.waiting.Waiting.{Waiting}
use Rattle.ect_trees.specs.Waits.{waits, waiting_cmp}
use Rattle.ect_trees.proofs.Entries.{IsDropped, is_set, none_there}
use Rattle.ect_trees.proofs.search.set_label.Goals as goal
use Rattle.ect_trees.proofs.search.set_label.Goals.{in-Some, in_default}

pub put-requires : goal.put-requires
put-requires c =
    let ls = c.args.labels.now.items in
    let read : label_at ls c.args.place ≡ c.index.result.now = sym (get_or_read ls c.args.place c.index.result.now c.requires.within c.index.ensures None) in
    let dropped : IsDropped ls c.args.place c.args.front.now c.match-index.front = elim c.match-index.branch [
      | in-Some w ↦ inr (w.in-Some.old, read ∙ w.in-Some.is, λ e. ap (λ f. waits f e) w.front-is ∙ (w.drop_one.ensures e ∙ ap (λ t. cond (is_eq (waiting_cmp t e)) false (waits c.args.front.now e)) w.entry.ensures))
      | in_default w ↦ inl (read ∙ w.in_default.is, w.front-is)
    ] in
    none_there ls c.args.place c.args.front.now c.match-index.front c.requires.entries dropped c.entry-2.result (ap (λ (e : Waiting). e.place) c.entry-2.ensures)

pub returns : goal.returns
returns c =
    let ls = c.args.labels.now.items in
    let read : label_at ls c.args.place ≡ c.index.result.now = sym (get_or_read ls c.args.place c.index.result.now c.requires.within c.index.ensures None) in
    let dropped : IsDropped ls c.args.place c.args.front.now c.match-index.front = elim c.match-index.branch [
      | in-Some w ↦ inr (w.in-Some.old, read ∙ w.in-Some.is, λ e. ap (λ f. waits f e) w.front-is ∙ (w.drop_one.ensures e ∙ ap (λ t. cond (is_eq (waiting_cmp t e)) false (waits c.args.front.now e)) w.entry.ensures))
      | in_default w ↦ inl (read ∙ w.in_default.is, w.front-is)
    ] in
    is_set c.args.place c.args.new ls _ c.args.front.now c.match-index.front c.put.new.self c.requires.entries dropped
    (λ e. c.in_ok-put.ensures e ∙ ap (λ t. cond (is_eq (waiting_cmp t e)) true (waits c.match-index.front e)) c.entry-2.ensures) refl
