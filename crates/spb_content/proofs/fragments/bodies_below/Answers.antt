use Rattle.std.proofs.Common.{◌≡◌, [], ◌∷◌, ◌++◌, Option, Some, None, refl, ap, sym, ◌∙◌}
use Rattle.std.specs.Prelude.{option_map}
use Rattle.spb_content.proofs.Fitting.{bodies_end, bodies_more}
use Rattle.spb_content.proofs.fragments.bodies_below.Goals as goal

is_none : {A : Type 0} (o : Option A) → ((x : A) → o ≡ Some x → ⊥) → None ≡ o
is_none None not = refl
is_none (Some x) not = absurd (not x refl)

pub returns-in_default : goal.returns-in_default
returns-in_default c =
    bodies_end c.args.local.now c.args.flags c.args.numbers c.loop-number.number c.loop-number.bodies.items
    (ap (option_map (λ v. v.items)) (is_none c.in_ok-body.field-0 c.in_default.not-Some) ∙ c.in_ok-body.ensures) c.loop-number.invariant

pub loop-number-preserved : goal.loop-number-preserved
loop-number-preserved c =
    bodies_more c.args.local.now c.args.flags c.args.numbers c.loop-number.number c.loop-number.bodies.items _ c.in-Some.body.items c.loop-number-test.true
    (c.in_ok-push.ensures.items ∙ ap (λ b. c.loop-number.bodies.items ++ Some b ∷ []) c.from_vec.ensures)
    (ap (option_map (λ v. v.items)) (sym c.in-Some.is) ∙ c.in_ok-body.ensures) c.loop-number.invariant
