use Rattle.std.proofs.Common.{◌≡◌, ◌≤◌, ◌+◌, ℕ, Bool, if◌then◌else◌, sym, ap, ◌∙◌, arith}
use Rattle.spb_world.proofs.AttachedLemmas.{count_more}
use Rattle.spb_world.proofs.attaching.isid_count_by_place.Goals as goal
use Rattle.spb_world.proofs.attaching.isid_count_by_place.Goals.{then-is_first_of_isid, else-is_first_of_isid}

pub loop-k-preserved : goal.loop-k-preserved
loop-k-preserved c =
    let old : ℕ = c.loop-k.count in
    let new : ℕ = c.if-is_first_of_isid.count in
    let first : Bool = c.is_first_of_isid.result in
    let is : new ≡ (if first then old + 1 else old) =
    elim c.if-is_first_of_isid.branch [
      | then-is_first_of_isid w ↦ w.count-is ∙ ap (λ (b : Bool). if b then old + 1 else old) (sym w.if-is_first_of_isid.true)
      | else-is_first_of_isid w ↦ w.count-is ∙ ap (λ (b : Bool). if b then old + 1 else old) (sym w.if-is_first_of_isid.false)
    ] in
    let few : c.loop-k.count ≤ c.loop-k.k = c.loop-k.invariant.1 in (
      omega (arith, c.loop-k-test.true),
      elim c.if-is_first_of_isid.branch [
        | then-is_first_of_isid w ↦ omega (arith, few, w.count-is)
        | else-is_first_of_isid w ↦ omega (arith, few, w.count-is)
      ],
      count_more c.loop-k.k c.args.attached.now _ first old new c.loop-k-test.true c.is_first_of_isid.ensures c.loop-k.invariant.2 is,
    )
