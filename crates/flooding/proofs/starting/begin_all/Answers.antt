use Rattle.std.proofs.Common.{◌≡◌, ◌<◌, ◌+◌, length, drop, sym, ap, subst, ◌∙◌, arith}
use Rattle.std.specs.Prelude.{slice_index}
use Rattle.flooding.specs.Own.{own_numbers, HaveBytes}
use Rattle.flooding.specs.Hearing.{Holding, HasFewOthers}
use Rattle.flooding.specs.Starting.{started, started_all}
use Rattle.flooding.specs.Placing.{holding}
use Rattle.flooding.proofs.Started.{started_few, started_bytes, next_start}
use Rattle.flooding.proofs.starting.begin_all.Goals as goal

pub loop-number-preserved : goal.loop-number-preserved
unfolding own_numbers
loop-number-preserved c =
    let g : Holding = holding c.loop-number.db c.loop-number.own in
    let number = c.loop-number.number in
    let last = c.args.last.now in
    let before = c.loop-number.invariant in
    let low : number < length last = omega (arith, c.loop-number-test.true, c.requires.long) in
    let whole : holding c.begin.new.db c.begin.new.own ≡ started number (slice_index last number) g = c.in_ok-begin.ensures.ok ∙ ap (λ i. started number (slice_index last i) g) c.from.ensures in (
      omega (arith, c.loop-number-test.true),
      (
        ap (started_all (drop (number + 1) last) (number + 1)) whole ∙ (sym (next_start last number g low) ∙ before.1.0),
        (
          subst HasFewOthers (sym whole) (started_few number (slice_index last number) g c.loop-number-test.true before.1.1.0),
          subst (λ (h : Holding). HaveBytes h.own) (sym whole) (started_bytes number (slice_index last number) g before.1.1.1),
        ),
      ),
    )
