use Rattle.std.proofs.Common.{◌≡◌, ◌<◌, length, Some, None, find, nat_eq, sym, ap, subst, ◌∙◌, arith}
use Rattle.fork_trees.specs.declared.set.Row.{Row}
use Rattle.fork_trees.specs.Set.{Kept, Answers}
use Rattle.fork_trees.proofs.Found.{none_under, none_from, row_trees, tree_within, tree_answers}
use Rattle.fork_trees.proofs.set.TreeSet.tree.Goals as goal

pub returns-in_default : goal.returns-in_default
returns-in_default c =
    let found : find (λ (r : Row). nat_eq r.mask c.args.mask) c.self.inside.rows.items ≡ None = ap (find (λ (r : Row). nat_eq r.mask c.args.mask)) (sym c.as_slice.ensures.value) ∙ sym c.in_default.ensures in
    subst (λ (s : Kept). Answers s c.args.source c.args.mask None) c.self.view_is (none_under _ c.self.inside.rows.items c.args.source c.args.mask (c.self.invariant.can c.if-self.false) found)

pub returns-in_default-place_of : goal.returns-in_default-place_of
returns-in_default-place_of c =
    subst (λ (s : Kept). Answers s c.args.source c.args.mask None) c.self.view_is (none_from _ c.args.source c.args.mask (sym c.in_default-place_of.ensures))

pub index-requires : goal.index-requires
index-requires c =
    let found : find (λ (r : Row). nat_eq r.mask c.args.mask) c.self.inside.rows.items ≡ Some c.in-Some.row.now = ap (find (λ (r : Row). nat_eq r.mask c.args.mask)) (sym c.as_slice.ensures.value) ∙ sym c.in-Some.ensures in
    let trees = row_trees c.self.inside.roads c.self.inside.masks.items c.self.inside.rows.items c.args.mask c.in-Some.row.now (c.self.invariant.can c.if-self.false) found in
    let within : c.in-Some-place_of.place < length c.in-Some.row.now.trees.items = tree_within c.self.inside.roads c.args.mask c.in-Some.row.now.trees.items c.args.source c.in-Some-place_of.place trees (sym c.in-Some-place_of.ensures) in
    omega arith

pub returns : goal.returns
returns c =
    let found : find (λ (r : Row). nat_eq r.mask c.args.mask) c.self.inside.rows.items ≡ Some c.in-Some.row.now = ap (find (λ (r : Row). nat_eq r.mask c.args.mask)) (sym c.as_slice.ensures.value) ∙ sym c.in-Some.ensures in
    subst (λ (s : Kept). Answers s c.args.source c.args.mask (Some c.index.result.now)) c.self.view_is
    (tree_answers _ c.self.inside.rows.items c.in-Some.row.now c.args.source c.args.mask c.in-Some-place_of.place c.index.result.now c.self.invariant.valid c.if-self.false (c.self.invariant.can c.if-self.false) found (sym c.in-Some-place_of.ensures) c.index.ensures)
