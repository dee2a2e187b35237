use Rattle.std.proofs.Common.{◌+◌, ◌<◌, length, Option, Vec, Global, sym, subst, arith}
use Rattle.ect_trees.specs.declared.search.Label.{Label}
use Rattle.ect_trees.proofs.Forgetting.{Forgetting, lost_at, forgetting_none, forgetting_keep, forgetting_drop, forgotten_all}
use Rattle.ect_trees.proofs.repair.forget.Goals as goal
use Rattle.ect_trees.proofs.repair.forget.Goals.{then-is_lost+in-Some-1, then-is_lost+in-None-1, else-is_lost}

pub loop-place-init : goal.loop-place-init
loop-place-init c = forgetting_none c.args.a c.args.b c.args.labels.now.items

pub loop-place-preserved : goal.loop-place-preserved
loop-place-preserved c =
    let a = c.args.a in
    let b = c.args.b in
    let k = c.loop-place.place in
    let old = c.args.labels.now in
    let ls = c.loop-place.labels.items in
    let within : k < length ls = omega (arith, c.loop-place-test.true, c.len-place-end.ensures, old.ok, c.loop-place.invariant.places) in
    elim c.if-is_lost.branch [
      | then-is_lost+in-Some-1 w ↦
          let lost = lost_at a b ls k c.index.result.now c.is_lost.result _ within c.index.ensures w.if-is_lost.true c.is_lost.ensures in
          subst (λ (v : Vec (Option Label) Global). Forgetting a b (k + 1) old.items v.items) (sym w.labels-is) (forgetting_drop a b k old.items ls within c.loop-place.invariant lost)
      | then-is_lost+in-None-1 w ↦
          let lost = lost_at a b ls k c.index.result.now c.is_lost.result _ within c.index.ensures w.if-is_lost.true c.is_lost.ensures in
          subst (λ (v : Vec (Option Label) Global). Forgetting a b (k + 1) old.items v.items) (sym w.labels-is) (forgetting_drop a b k old.items ls within c.loop-place.invariant lost)
      | else-is_lost w ↦
          let kept = lost_at a b ls k c.index.result.now c.is_lost.result _ within c.index.ensures w.if-is_lost.false c.is_lost.ensures in
          subst (λ (v : Vec (Option Label) Global). Forgetting a b (k + 1) old.items v.items) (sym w.labels-is) (forgetting_keep a b k old.items ls c.loop-place.invariant kept)
    ]

pub returns : goal.returns
returns c =
    let old = c.args.labels.now in
    forgotten_all c.args.a c.args.b c.loop-place.place old.items c.loop-place.labels.items
    (omega (arith, c.loop-place-test.false, c.len-place-end.ensures, old.ok, c.loop-place.invariant.places)) c.loop-place.invariant
