use Rattle.std.proofs.Common.{rules, ℕ, ◌≡◌, ◌<◌, None, sym, ap, subst, ◌∙◌, arith, true, false, ◌+◌, if◌then◌else◌}
use Rattle.std.proofs.lemmas.Bool.{true≢false}
use Rattle.flooding.specs.Own.{own_numbers, body_of_number, HaveBytes}
use Rattle.flooding.specs.Hearing.{Holding, HasFewOthers}
use Rattle.flooding.specs.Origination.{brought_up}
use Rattle.flooding.specs.Placing.{holding}
use Rattle.flooding.specs.Settling.{Test, own_held, says, is_new}
use Rattle.flooding.proofs.Rest.{rest_of, next_rest, no_rest, settled_rest, still_bytes}
use Rattle.flooding.proofs.NoneHeld.{NoneAhead, none_next, none_brought, idle_stands}
use Rattle.flooding.proofs.Few.{bringing_keeps_few}
use Rattle.flooding.proofs.settling.bring_all_up.Goals.{then-not-stands+in_ok-bring_up, else-not-stands}
use Rattle.flooding.proofs.settling.bring_all_up.Goals as goal

pub bring_up-requires-clause-number : goal.bring_up-requires-clause-number
unfolding own_numbers
bring_up-requires-clause-number c = omega (arith, c.loop-number-test.true)

pub bring_up-requires-clause-few : goal.bring_up-requires-clause-few
bring_up-requires-clause-few c = c.loop-number.invariant.1.1.0.0

pub bring_up-requires-clause-bodies : goal.bring_up-requires-clause-bodies
bring_up-requires-clause-bodies c = c.loop-number.invariant.1.1.0.1

pub loop-number-preserved : goal.loop-number-preserved
unfolding own_numbers
loop-number-preserved c =
    let test : Test = if c.args.by_age then is_new else says in
    let g : Holding = holding c.loop-number.db c.loop-number.own in
    let number : ℕ = c.loop-number.number in
    let below : number < own_numbers = omega (arith, c.loop-number-test.true) in
    let last = c.last_held-last.result in
    let before = c.loop-number.invariant in
    elim c.if-not-stands.branch [
      | then-not-stands+in_ok-bring_up w ↦
          let whole : holding c.if-not-stands.db c.if-not-stands.own ≡ brought_up c.args.up number g = (λ i. holding (w.db-is i) (w.own-is i)) ∙ w.in_ok-bring_up.ensures in (
            omega (arith, c.loop-number-test.true),
            (
              ap (rest_of test c.args.up (number + 1)) whole
                  ∙ (sym (next_rest test c.args.up number g false below (sym c.stands.ensures ∙ w.if-not-stands.true)) ∙ before.1.0),
              (
                (
                  subst HasFewOthers (sym whole) (bringing_keeps_few c.args.up number g below before.1.1.0.0),
                  subst (λ (x : Holding). HaveBytes x.own) (sym whole) (still_bytes c.args.up number g before.1.1.0.1),
                ),
                (
                  subst (NoneAhead last (number + 1)) (sym whole) (none_brought c.args.up last number g before.1.1.1.0),
                  λ is. absurd (true≢false (sym w.brought-is ∙ is)),
                ),
              ),
            ),
          )
      | else-not-stands w ↦
          let whole : holding c.if-not-stands.db c.if-not-stands.own ≡ g = λ i. holding (w.db-is i) (w.own-is i) in (
            omega (arith, c.loop-number-test.true),
            (
              ap (rest_of test c.args.up (number + 1)) whole
                  ∙ (sym (next_rest test c.args.up number g true below (sym c.stands.ensures ∙ w.if-not-stands.false)) ∙ before.1.0),
              (
                (subst HasFewOthers (sym whole) before.1.1.0.0, subst (λ (x : Holding). HaveBytes x.own) (sym whole) before.1.1.0.1),
                (
                  subst (NoneAhead last (number + 1)) (sym whole) (none_next last number g before.1.1.1.0),
                  λ is. whole ∙ before.1.1.1.1 (sym w.brought-is ∙ is),
                ),
              ),
            ),
          )
    ]

pub loop-number-preserved-then-is_none : goal.loop-number-preserved-then-is_none
unfolding own_numbers
loop-number-preserved-then-is_none c =
    let test : Test = if c.args.by_age then is_new else says in
    let g : Holding = holding c.loop-number.db c.loop-number.own in
    let number : ℕ = c.loop-number.number in
    let below : number < own_numbers = omega (arith, c.loop-number-test.true) in
    let last = c.last_held-last.result in
    let before = c.loop-number.invariant in
    let body : body_of_number g.own number ≡ None = search rules in
    let held : own_held g number ≡ None = before.1.1.1.0 number (omega (arith, c.if-number-last.true)) (omega arith) below in (
      omega (arith, c.loop-number-test.true),
      (
        sym (next_rest test c.args.up number g true below (idle_stands c.args.by_age g number body held)) ∙ before.1.0,
        (before.1.1.0, (none_next last number g before.1.1.1.0, before.1.1.1.1)),
      ),
    )

pub returns-clause-after : goal.returns-clause-after
unfolding own_numbers
returns-clause-after c =
    let test : Test = if c.args.by_age then is_new else says in
    sym (no_rest test c.args.up c.loop-number.number (holding c.loop-number.db c.loop-number.own) (omega (arith, c.loop-number-test.false)))
    ∙ (c.loop-number.invariant.1.0 ∙ sym (settled_rest test c.args.up (holding c.args.db.now c.args.own.now) c.if-own.false))
