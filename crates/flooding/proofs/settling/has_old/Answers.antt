use Rattle.std.proofs.Common.{sym, ap, ◌∙◌, arith}
use Rattle.std.specs.FinMap.{get}
use Rattle.flooding.specs.Own.{own_numbers}
use Rattle.flooding.specs.Placing.{holding}
use Rattle.flooding.specs.Settling as settling
use Rattle.flooding.proofs.Rest.{young_next}
use Rattle.flooding.proofs.settling.has_old.Goals as goal

pub loop-next-init : goal.loop-next-init
loop-next-init c = (omega arith, λ number below. absurd (omega (arith, below)))

pub loop-next-preserved : goal.loop-next-preserved
loop-next-preserved c =
    (omega (arith, c.loop-next-test.true), young_next (holding c.args.db.now c.args.own.now) c.loop-next.next c.loop-next.invariant.1 (ap settling.is_old (sym (c.find.ensures.entry ∙ ap (get c.args.db.now) c.id.ensures)) ∙ sym c.is_old.ensures ∙ c.if-is_old.false))

pub returns : goal.returns
unfolding own_numbers
returns c = λ is number below. c.loop-next.invariant.1 number (omega (arith, below, c.loop-next-test.false))
