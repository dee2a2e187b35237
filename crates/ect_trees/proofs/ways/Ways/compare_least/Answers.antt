use Rattle.std.proofs.Common.{◌≡◌, ◌+◌, ◌-◌, ◌⊎◌, inl, inr, [], refl, sym, subst, arith}
use Rattle.ect_trees.specs.Key.{inserted}
use Rattle.ect_trees.proofs.Compared.{WalksBack, walked_none, walked_more, walked_all}
use Rattle.ect_trees.proofs.ways.Ways.compare_least.Goals as goal
use Rattle.ect_trees.proofs.ways.Ways.compare_least.Goals.{then-loop-left-test+else-place-other, else-loop-left-test}

pub loop-left-init : goal.loop-left-init
loop-left-init c =
    let r = c.args.self.now.mesh.now in
    let m = c.args.self.now.mask in
    let steps = c.args.self.now.steps.now in
    ([], [], walked_none r m steps c.args.hops c.args.a, walked_none r m steps c.args.hops c.args.b, refl, refl)

pub loop-left-preserved : goal.loop-left-preserved
loop-left-preserved c =
    let r = c.args.self.now.mesh.now in
    let m = c.args.self.now.mask in
    let steps = c.args.self.now.steps.now in
    let left = c.loop-left.left in
    let i = c.loop-left.invariant in
    let one : left ≡ (left - 1) + 1 = omega (arith, c.loop-left-test.true) in (
      inserted c.masked_at.result i.0,
      inserted c.masked_at-in-loop-left.result i.1,
      subst (λ t. WalksBack r m steps c.args.hops c.args.a (left - 1) t (inserted c.masked_at.result i.0)) (sym c.place_before-place.ensures)
          (walked_more r m steps c.args.hops c.args.a left (left - 1) c.loop-left.place i.0 (inserted c.masked_at.result i.0) c.masked_at.result one c.masked_at.ensures refl i.2),
      subst (λ t. WalksBack r m steps c.args.hops c.args.b (left - 1) t (inserted c.masked_at-in-loop-left.result i.1)) (sym c.place_before-other.ensures)
          (walked_more r m steps c.args.hops c.args.b left (left - 1) c.loop-left.other i.1 (inserted c.masked_at-in-loop-left.result i.1) c.masked_at-in-loop-left.result one c.masked_at-in-loop-left.ensures refl i.3),
      c.lesser-least.ensures i.0 i.4,
      c.lesser-other_least.ensures i.1 i.5,
    )

pub returns : goal.returns
returns c =
    let r = c.args.self.now.mesh.now in
    let m = c.args.self.now.mask in
    let steps = c.args.self.now.steps.now in
    let i = c.loop-left.invariant in
    let ends : (c.loop-left.left ≡ 0) ⊎ (c.loop-left.place ≡ c.loop-left.other) = elim c.loop-left-test.branch [
      | then-loop-left-test+else-place-other w ↦ inr (search (arith, w.if-place-other))
      | else-loop-left-test w ↦ inl (search (arith, w.loop-left-test))
    ] in
    λ differ.
    walked_all r m steps c.args.hops c.args.a c.args.b c.loop-left.left c.loop-left.place c.loop-left.other i.0 i.1 c.compare_if_some.result ends i.2 i.3
    (c.compare_if_some.ensures i.0 i.1 i.4 i.5 differ)
