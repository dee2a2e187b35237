use Rattle.std.proofs.Common.{◌≡◌, ◌+◌, ◌-◌, ◌⊎◌, inl, inr, sym, ◌∙◌, subst, arith}
use Rattle.std.specs.Cmp.Lexicographic.{slice_cmp}
use Rattle.ect_trees.specs.Key.{id_cmp}
use Rattle.ect_trees.proofs.Compared.{WalksBack, walked_more, walked_all}
use Rattle.ect_trees.proofs.ways.Ways.compare_sorted.Goals as goal
use Rattle.ect_trees.proofs.ways.Ways.compare_sorted.Goals.{then-loop-left-test+else-place-other, else-loop-left-test}

pub loop-left-preserved : goal.loop-left-preserved
loop-left-preserved c =
    let r = c.args.self.now.mesh.now in
    let m = c.args.self.now.mask in
    let steps = c.args.self.now.steps.now in
    let left = c.loop-left.left in
    let one : left ≡ (left - 1) + 1 = omega (arith, c.loop-left-test.true) in (
      subst (λ t. WalksBack r m steps c.args.hops c.args.a (left - 1) t c.put_id.new.ids.items) (sym c.place_before-place.ensures)
          (walked_more r m steps c.args.hops c.args.a left (left - 1) c.loop-left.place c.loop-left.ids.items c.put_id.new.ids.items c.masked_at.result one c.masked_at.ensures c.in_ok-put_id.ensures c.loop-left.invariant.0),
      subst (λ t. WalksBack r m steps c.args.hops c.args.b (left - 1) t c.put_id-in-loop-left.new.ids.items) (sym c.place_before-other.ensures)
          (walked_more r m steps c.args.hops c.args.b left (left - 1) c.loop-left.other c.loop-left.others.items c.put_id-in-loop-left.new.ids.items c.masked_at-in-loop-left.result one c.masked_at-in-loop-left.ensures c.in_ok-put_id-2.ensures c.loop-left.invariant.1),
    )

pub returns : goal.returns
returns c =
    let r = c.args.self.now.mesh.now in
    let m = c.args.self.now.mask in
    let steps = c.args.self.now.steps.now in
    let ends : (c.loop-left.left ≡ 0) ⊎ (c.loop-left.place ≡ c.loop-left.other) = elim c.loop-left-test.branch [
      | then-loop-left-test+else-place-other w ↦ inr (search (arith, w.if-place-other))
      | else-loop-left-test w ↦ inl (search (arith, w.loop-left-test))
    ] in
    let order : c.cmp.result ≡ slice_cmp id_cmp c.loop-left.ids.items c.loop-left.others.items =
    c.cmp.ensures ∙ (λ i. slice_cmp id_cmp (c.as_slice.ensures.value i) (c.as_slice-2.ensures.value i)) in
    walked_all r m steps c.args.hops c.args.a c.args.b c.loop-left.left c.loop-left.place c.loop-left.other c.loop-left.ids.items c.loop-left.others.items c.cmp.result ends c.loop-left.invariant.0 c.loop-left.invariant.1 order
