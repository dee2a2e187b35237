-- Entries of the frontier that compare equal are the same.
use Rattle.std.proofs.Common.{◌≡◌, true, true≢false, refl, sym, subst, Ordering, Less, Equal, Greater, nat_cmp}
use Rattle.std.specs.Ordering.{ordering_then, is_eq}
use Rattle.std.proofs.lemmas.Cmp.{nat_cmp_total, tied_itself}
use Rattle.ect_trees.specs.declared.waiting.Waiting.{Waiting}
use Rattle.ect_trees.specs.Waits.{waiting_cmp}
use Rattle.ect_trees.proofs.Placing.{nat_tied, then_parts}

is_equal : (o : Ordering) → is_eq o ≡ true → o ≡ Equal
is_equal Less h = absurd (true≢false (sym h))
is_equal Equal h = refl
is_equal Greater h = absurd (true≢false (sym h))

-- entries that compare equal are the same
pub entry_same : (w e : Waiting) → is_eq (waiting_cmp w e) ≡ true → w ≡ e
entry_same w e h =
    let costs = then_parts (nat_cmp w.cost e.cost) _ (is_equal (waiting_cmp w e) h) in
    let hops = then_parts (nat_cmp w.hops e.hops) _ costs.1 in
    let c : w.cost ≡ e.cost = nat_tied w.cost e.cost costs.0 in
    let n : w.hops ≡ e.hops = nat_tied w.hops e.hops hops.0 in
    let p : w.place ≡ e.place = nat_tied w.place e.place hops.1 in
    λ i. record { cost = c i; hops = n i; place = p i }

pub entry_self : (w : Waiting) → is_eq (waiting_cmp w w) ≡ true
entry_self w = λ i. is_eq (ordering_then (tied_itself nat_cmp_total w.cost i) (ordering_then (tied_itself nat_cmp_total w.hops i) (tied_itself nat_cmp_total w.place i)))

pub same_entry : (w e : Waiting) → w ≡ e → is_eq (waiting_cmp w e) ≡ true
same_entry w e h = subst (λ t. is_eq (waiting_cmp w t) ≡ true) h (entry_self w)
