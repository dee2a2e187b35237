use Rattle.std.proofs.Common.{◌≤◌, ◌++◌, ◌∷◌, [], length, arith, sym, ap, ◌∙◌}
use Rattle.std.proofs.lemmas.List.{take_all}
use Rattle.std.specs.FinMap.{entries, len-entries}
use Rattle.flooding.specs.Sending.{ids_among}
use Rattle.flooding.proofs.Sent.{ids_sent, ids_kept, ids_past}
use Rattle.flooding.proofs.send.to_send.Goals as goal
use Rattle.flooding.proofs.send.to_send.Goals.{in-Some+then-has+in_ok-push, in-Some+else-has, in_default}

pub loop-place-preserved : goal.loop-place-preserved
loop-place-preserved c = elim c.match-at.branch [
  | in-Some+then-has+in_ok-push w ↦
      ap (λ v. v.items) w.ids-is ∙ w.in_ok-push.ensures.items ∙ ap (λ ids. ids ++ w.in-Some.held.now.id ∷ []) c.loop-place.invariant
      ∙ sym (ids_sent c.args.port (entries c.args.db.now) c.loop-place.place _ (sym w.in-Some.ensures.entry) (sym w.has.ensures ∙ w.if-has.true))
  | in-Some+else-has w ↦
      ap (λ v. v.items) w.ids-is ∙ c.loop-place.invariant
      ∙ sym (ids_kept c.args.port (entries c.args.db.now) c.loop-place.place _ (sym w.in-Some.ensures.entry) (sym w.has.ensures ∙ w.if-has.false))
  | in_default w ↦
      ap (λ v. v.items) w.ids-is ∙ c.loop-place.invariant
      ∙ sym (ids_past c.args.port (entries c.args.db.now) c.loop-place.place (sym w.in_default.ensures.entry))
]

pub returns : goal.returns
returns c =
    let es = entries c.args.db.now in
    let len_is = c.len-place-end.ensures.len ∙ len-entries c.args.db.now in
    let all : length es ≤ c.loop-place.place = omega arith in
    c.loop-place.invariant ∙ ap (ids_among c.args.port) (take_all c.loop-place.place es all)
