use Rattle.std.proofs.Common.{◌≡◌, ◌-◌, length, Some, sym, subst, ◌∙◌}
use Rattle.std.specs.List.{slice_get}
use Rattle.ect_trees.proofs.Ends.{ends_at_last}
use Rattle.ect_trees.proofs.tree.ends_at.Goals as goal

pub returns-in-Some : goal.returns-in-Some
returns-in-Some c =
    let last = subst (λ t. slice_get t (length t - 1) ≡ Some c.in-Some.end.now) c.as_slice.ensures.value (sym c.in-Some.ensures.value) in
    c.eq.ensures ∙ sym (ends_at_last c.args.label.now.bridges.items c.in-Some.end.now c.args.to last)
