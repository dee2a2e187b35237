use Rattle.std.proofs.Common.{◌≡◌, ◌+◌, not, length, sym, subst, ap, ◌∙◌, arith, Equal, Greater, nat_cmp}
use Rattle.std.specs.Ordering.{ordering_then}
use Rattle.ect_trees.specs.Search.{HasLowerIds, Tells, IsLow}
use Rattle.ect_trees.proofs.Placing.{nat_tied, then_parts}
use Rattle.ect_trees.proofs.Extended.{lengths_cmp, tells_not, tells_won, tells_lost}
use Rattle.ect_trees.proofs.search.Search.is_lower.Goals as goal

pub returns-in-Greater : goal.returns-in-Greater
returns-in-Greater c =
    let s = c.args.self.now in
    let l = c.args.label.now in
    let o = c.in-Some.old in
    let counted : c.len.result ≡ length l.bridges.items = omega (arith, c.len.ensures, l.bridges.ok) in
    let lengths : lengths_cmp c.args.cost l o ≡ Greater = ap (λ n. ordering_then (nat_cmp c.args.cost o.cost) (nat_cmp (n + 1) (length o.bridges.items))) (sym counted) ∙ (sym c.compare_lengths.ensures ∙ c.in-Greater.is) in
    λ free. subst (IsLow s l c.args.system) (sym c.in-Some.is) (tells_not s l o c.args.system c.args.cost (c.requires.old o c.in-Some.is) c.requires.label.2 lengths)

pub returns-then-branch : goal.returns-then-branch
returns-then-branch c =
    let s = c.args.self.now in
    let l = c.args.label.now in
    let o = c.in-Some.old in
    let counted : c.len.result ≡ length l.bridges.items = omega (arith, c.len.ensures, l.bridges.ok) in
    let lengths : lengths_cmp c.args.cost l o ≡ Equal = ap (λ n. ordering_then (nat_cmp c.args.cost o.cost) (nat_cmp (n + 1) (length o.bridges.items))) (sym counted) ∙ (sym c.compare_lengths.ensures ∙ c.in-Equal.is) in
    let long : length o.bridges.items ≡ length l.bridges.items + 1 = sym (nat_tied (length l.bridges.items + 1) (length o.bridges.items) (then_parts (nat_cmp c.args.cost o.cost) _ lengths).1) in
    subst (λ k. Tells s l c.args.system k (not c.passes-then-branch.result)) (sym c.in-Some.is)
    (tells_won s l o c.args.system c.args.cost c.passes-then-branch.result (c.requires.old o c.in-Some.is) c.requires.label.2 lengths long (subst (HasLowerIds s l o) c.if-branch.true c.in_ok-wins_tie-in-Equal.ensures) c.passes-then-branch.ensures)

pub returns-else-branch : goal.returns-else-branch
returns-else-branch c =
    let s = c.args.self.now in
    let l = c.args.label.now in
    let o = c.in-Some.old in
    let counted : c.len.result ≡ length l.bridges.items = omega (arith, c.len.ensures, l.bridges.ok) in
    let lengths : lengths_cmp c.args.cost l o ≡ Equal = ap (λ n. ordering_then (nat_cmp c.args.cost o.cost) (nat_cmp (n + 1) (length o.bridges.items))) (sym counted) ∙ (sym c.compare_lengths.ensures ∙ c.in-Equal.is) in
    let long : length o.bridges.items ≡ length l.bridges.items + 1 = sym (nat_tied (length l.bridges.items + 1) (length o.bridges.items) (then_parts (nat_cmp c.args.cost o.cost) _ lengths).1) in
    λ free. subst (IsLow s l c.args.system) (sym c.in-Some.is)
    (tells_lost s l o c.args.system c.args.cost (c.requires.old o c.in-Some.is) c.requires.label.2 lengths long (subst (HasLowerIds s l o) c.if-branch.false c.in_ok-wins_tie-in-Equal.ensures) free)
