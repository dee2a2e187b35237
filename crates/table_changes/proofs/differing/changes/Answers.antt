use Rattle.std.proofs.Common.{◌≡◌, ◌++◌, length, sym, ap, ◌∙◌, subst, arith, flat_map}
use Rattle.std.specs.List.{range_with_len}
use Rattle.spb_world.specs.World.{World, Sound}
use Rattle.spb_world.specs.Changing.{with_change}
use Rattle.table_changes.specs.Changes.{changes_at, changes_of}
use Rattle.table_changes.proofs.Lists.{one_more}
use Rattle.table_changes.proofs.After.{sound_after}
use Rattle.table_changes.proofs.differing.changes.Goals as goal

-- a copy that is dropped shows what every world keeps
pub put_changes-requires : goal.put_changes-requires
put_changes-requires c =
    let world = c.args.world.now in
    let copy : c.in_ok-before.before ≡ world = c.in_ok-before.ensures in
    let sound : Sound c.in_ok-before.before = subst Sound c.before-2.view_is c.before-2.invariant.0 in
    let changed : Sound (with_change world c.args.change.now) = sound_after world c.args.change.now (subst Sound copy sound) c.requires in
    record {
      before = subst Sound (sym c.loop-place.invariant.before) sound;
      after = subst Sound (sym (c.loop-place.invariant.after ∙ c.in_ok-after.ensures)) changed;
      place = omega (arith, c.loop-place-test.true, c.bridge_count-place-end.ensures, ap (λ (w : World). length w.bridges) (c.loop-place.invariant.before ∙ copy));
    }

pub loop-place-preserved : goal.loop-place-preserved
loop-place-preserved c =
    let before = c.loop-place.invariant.before in
    let after = c.loop-place.invariant.after in
    record {
      before = c.in_ok-put_changes.ensures.before ∙ before;
      after = c.in_ok-put_changes.ensures.after ∙ after;
      list = c.in_ok-put_changes.ensures.changes ∙ ((λ i. c.loop-place.invariant.list i ++ changes_at (before i) (after i) c.loop-place.place) ∙ sym (one_more (changes_at c.in_ok-before.before c.in_ok-after.after) c.loop-place.place));
    }

pub returns : goal.returns
unfolding changes_of
returns c =
    let ended : c.loop-place.place ≡ c.bridge_count-place-end.result = omega (arith, c.loop-place-test.false) in
    c.loop-place.invariant.list
    ∙ (λ i. flat_map (changes_at (c.in_ok-before.ensures i) (c.in_ok-after.ensures i)) (range_with_len 0 ((ended ∙ c.bridge_count-place-end.ensures) i)))
