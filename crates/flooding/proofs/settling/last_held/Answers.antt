use Rattle.std.proofs.Common.{◌≤◌, length, arith, sym}
use Rattle.std.proofs.lemmas.Option.{slice_get_past}
use Rattle.std.specs.FinMap.{entries, len-entries}
use Rattle.lsdb.specs.Entry.{entry_of}
use Rattle.lsdb.specs.Database.{keyed}
use Rattle.flooding.specs.Own.{own_numbers}
use Rattle.flooding.specs.Placing.{holding}
use Rattle.flooding.proofs.NoneHeld.{held_before, held_within, next_before, none_above, other_past, other_there}
use Rattle.flooding.proofs.settling.last_held.Goals as goal

pub returns-in_default : goal.returns-in_default
unfolding own_numbers
returns-in_default c number above below = absurd (omega (arith, above, below))

pub overflow_step-place : goal.overflow_step-place
overflow_step-place c =
    let within = held_within _ _ _ _ (held_before c.args.own.now.system c.args.db.now 0 c.in-Some.first c.args.first c.requires c.in-Some.is) in
    omega (arith, within, c.len-len.ensures.len, c.len-len.ensures.few)

pub loop-place-init : goal.loop-place-init
loop-place-init c = held_before c.args.own.now.system c.args.db.now 0 c.in-Some.first c.args.first c.requires c.in-Some.is

pub returns-in_default-at : goal.returns-in_default-at
returns-in_default-at c =
    none_above (holding c.args.db.now c.args.own.now) c.loop-place.place c.loop-place.last c.loop-place.invariant
    (other_past c.args.own.now.system c.args.db.now c.loop-place.place (sym c.in_default-at.ensures.entry))

pub returns-then-not-has_number : goal.returns-then-not-has_number
returns-then-not-has_number c =
    none_above (holding c.args.db.now c.args.own.now) c.loop-place.place c.loop-place.last c.loop-place.invariant
    (other_there c.args.own.now.system c.args.db.now c.loop-place.place (keyed c.in-Some-at.held.now) (sym c.in-Some-at.ensures.entry) (sym c.if-not-has_number.ensures))

pub loop-place-preserved : goal.loop-place-preserved
loop-place-preserved c =
    next_before c.args.own.now.system c.args.db.now c.loop-place.place c.in-Some-at.held.now.id (entry_of c.in-Some-at.held.now)
    (sym c.in-Some-at.ensures.entry) (sym c.if-not-has_number.ensures)

pub returns : goal.returns
returns c =
    let past : length (entries c.args.db.now) ≤ c.loop-place.place = omega (arith, c.len-len.ensures.len, len-entries c.args.db.now, c.loop-place-test.false) in
    none_above (holding c.args.db.now c.args.own.now) c.loop-place.place c.loop-place.last c.loop-place.invariant
    (other_past c.args.own.now.system c.args.db.now c.loop-place.place (slice_get_past (entries c.args.db.now) c.loop-place.place past))
