use Rattle.std.proofs.Common.{◌+◌, sym, ◌∙◌}
use Rattle.ect_trees.proofs.Followed.{after_place, after_nowhere, copied_get}
use Rattle.ect_trees.proofs.followers.after.Goals as goal

pub returns-in_err-place : goal.returns-in_err-place
returns-in_err-place c =
    c.from_residual.ensures ∙ sym (after_nowhere c.args.system c.args.path.now (sym c.place_on.ensures ∙ c.in_err-place.was))

pub returns : goal.returns
returns c =
    let place = c.in_ok-place.place in
    c.copied.ensures
    ∙ (copied_get c.args.path.now (place + 1) c.get.result c.get.ensures.lookup.0 c.get.ensures.lookup.1
    ∙ sym (after_place c.args.system c.args.path.now place (sym c.place_on.ensures ∙ c.in_ok-place.was)))
