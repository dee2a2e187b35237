use Rattle.std.proofs.Common.{◌≡◌, ◌≤◌, ◌+◌, ℕ, Bool, if◌then◌else◌, sym, ap, ◌∙◌, arith}
use Rattle.spb_world.proofs.CountLemmas.{leads_there, counted_on}
use Rattle.spb_world.proofs.attaching.ascending_isid_count.Goals as goal
use Rattle.spb_world.proofs.attaching.ascending_isid_count.Goals.{then-ne, else-ne}

pub loop-k-preserved : goal.loop-k-preserved
loop-k-preserved c =
    let old : ℕ = c.loop-k.count in
    let new : ℕ = c.if-ne.count in
    let is : new ≡ (if c.ne.result then old + 1 else old) =
    elim c.if-ne.branch [
      | then-ne w ↦ w.count-is ∙ ap (λ (b : Bool). if b then old + 1 else old) (sym w.if-ne.true)
      | else-ne w ↦ w.count-is ∙ ap (λ (b : Bool). if b then old + 1 else old) (sym w.if-ne.false)
    ] in
    let few : old ≤ c.loop-k.k = c.loop-k.invariant.1 in (
      omega (arith, c.loop-k-test.true),
      elim c.if-ne.branch [
        | then-ne w ↦ omega (arith, few, w.count-is)
        | else-ne w ↦ omega (arith, few, w.count-is)
      ],
      counted_on c.args.isids.now c.loop-k.k old new _ c.ne.result c.loop-k-test.true c.requires (leads_there c.args.isids.now (c.loop-k.k + 1) c.get.result _ c.get.ensures.lookup.0 c.get.ensures.lookup.1) c.ne.ensures c.loop-k.invariant.2 is,
    )
