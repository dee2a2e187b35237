use Rattle.std.proofs.Common.{sym, ◌∙◌, ◌≡◌, false}
use Rattle.std.proofs.lemmas.Bool.{true≢false}
use Rattle.flooding.specs.Placing.{holding}
use Rattle.flooding.specs.Settling.{is_new}
use Rattle.flooding.proofs.Settled.{settling_stands}
use Rattle.flooding.proofs.Rest.{young_stands, not_true}
use Rattle.flooding.proofs.settling.keep_fresh.Goals.{then-own, else-own}
use Rattle.flooding.proofs.settling.keep_fresh.Goals as goal

pub returns-then-not-has_old-clause-after : goal.returns-then-not-has_old-clause-after
returns-then-not-has_old-clause-after c =
    let h = holding c.args.db.now c.args.own.now in
    elim c.if-own.branch [
      | then-own w ↦ sym (settling_stands is_new c.args.up h (λ fresh. absurd (true≢false (sym w.if-own.true ∙ fresh))))
      | else-own w ↦
          let young : w.has_old.result ≡ false = not_true w.has_old.result (sym w.value-is ∙ c.if-not-has_old.true) in
          sym (settling_stands is_new c.args.up h (λ fresh number below. young_stands h number (c.requires.said c.if-not-renewed.true fresh number below) (w.has_old.ensures young number below)))
    ]
