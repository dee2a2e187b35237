use Rattle.std.proofs.Common.{◌≡◌, ◌≢◌, ◌≤◌, ◌<◌, ◌+◌, ◌-◌, length, Some, refl, sym, ◌∙◌, subst, arith}
use Rattle.ect_trees.specs.Ways.{step_at, place_before, hops_or}
use Rattle.ect_trees.proofs.Followed.{FollowsBack, follows_none, follows_more, follows_on, follower_none, follower_end, follower_found}
use Rattle.ect_trees.proofs.followers.follower.Goals as goal

pub loop-left-init : goal.loop-left-init
loop-left-init c =
    let low : hops_or (step_at c.args.steps.now c.args.me) c.in-Some.step.hops < c.in-Some.step.hops = subst (λ n. n < c.in-Some.step.hops) c.hops_to-least.ensures (omega (arith, c.if-left-least.false)) in
    (c.in-Some.step, sym c.step_at.ensures ∙ c.in-Some.is, low, λ r. follows_none r c.args.steps.now c.args.me c.in-Some.step.hops c.args.to)

pub loop-left-preserved : goal.loop-left-preserved
loop-left-preserved c =
    let steps = c.args.steps.now in
    let i = c.loop-left.invariant in
    let left = c.loop-left.left in
    let told : Some i.0 ≡ Some c.in-Some.step = sym i.1 ∙ (sym c.step_at.ensures ∙ c.in-Some.is) in
    let same : i.0 ≡ c.in-Some.step = cc in
    let near : hops_or (step_at steps c.args.me) i.0.hops < left - 1 =
    subst (λ t. hops_or (step_at steps c.args.me) t.hops < left - 1) (sym same)
    (subst (λ n. n < left - 1) c.hops_to-least.ensures (omega (arith, c.loop-left-test.true))) in
    let one : left ≡ (left - 1) + 1 = omega (arith, near) in (
      i.0,
      i.1,
      near,
      λ r.
          subst (FollowsBack r steps c.args.me i.0.hops c.args.to (left - 1)) (sym c.place_before-place.ensures)
          (follows_on r steps c.args.me i.0.hops c.args.to left (left - 1) c.loop-left.place one near (i.3 r)),
    )

pub returns-in_default : goal.returns-in_default
returns-in_default c = λ r.
    follower_none r c.args.steps.now c.args.me c.args.to (length c.args.steps.now) (sym c.step_at.ensures ∙ c.in_default.is) refl

pub returns-then-left-least : goal.returns-then-left-least
returns-then-left-least c =
    let steps = c.args.steps.now in
    let s = c.in-Some.step in
    let end : s.hops ≤ hops_or (step_at steps c.args.me) s.hops = subst (λ n. s.hops ≤ n) c.hops_to-least.ensures (omega (arith, c.if-left-least.true)) in
    λ r.
    follower_end r steps c.args.me c.args.to s.hops c.args.to (length steps) s (sym c.step_at.ensures ∙ c.in-Some.is)
    (follows_none r steps c.args.me s.hops c.args.to) end refl

pub returns-then-before-me : goal.returns-then-before-me
returns-then-before-me c =
    let i = c.loop-left.invariant in
    λ r.
    follower_found r c.args.steps.now c.args.me c.args.to c.loop-left.left c.loop-left.place i.0 i.1 (i.3 r) (omega (arith, i.2))
    (sym c.place_before-before.ensures ∙ c.if-before-me.true)

pub returns : goal.returns
returns c =
    let i = c.loop-left.invariant in
    let steps = c.args.steps.now in
    let left = c.loop-left.left in
    let told : Some i.0 ≡ Some c.in-Some.step = sym i.1 ∙ (sym c.step_at.ensures ∙ c.in-Some.is) in
    let same : i.0 ≡ c.in-Some.step = cc in
    let one : left ≡ (left - 1) + 1 = omega (arith, i.2) in
    let other : place_before steps c.loop-left.place ≢ c.args.me = λ e. c.if-before-me.false (c.place_before-before.ensures ∙ e) in
    let end : left - 1 ≤ hops_or (step_at steps c.args.me) i.0.hops =
    subst (λ t. left - 1 ≤ hops_or (step_at steps c.args.me) t.hops) (sym same)
    (subst (λ n. left - 1 ≤ n) c.hops_to-least.ensures (omega (arith, c.loop-left-test.false))) in
    λ r.
    follower_end r steps c.args.me c.args.to (left - 1) (place_before steps c.loop-left.place) (length steps) i.0 i.1
    (follows_more r steps c.args.me i.0.hops c.args.to left (left - 1) c.loop-left.place one other (i.3 r)) end refl
