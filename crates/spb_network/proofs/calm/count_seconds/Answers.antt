use Rattle.std.proofs.Common.{◌<◌, ℕ, List, length, slice_set, get_or, ap, subst, ◌∙◌, arith}
use Rattle.std.proofs.lemmas.List.{get_or_default}
use Rattle.std.proofs.lemmas.List.Edits.{map_over_more}
use Rattle.network_rounds.specs.Calm.{ticks_after}
use Rattle.spb_network.proofs.calm.count_seconds.Goals as goal

pub loop-tick-preserved : goal.loop-tick-preserved
loop-tick-preserved c =
    let ticks : List ℕ = c.loop-tick.tick-items in
    let tick : ℕ = get_or ticks c.loop-tick.tick-index 0 in
    let here : c.loop-tick.tick-index < length ticks = omega arith in
    let within : c.loop-tick.tick-index < length c.args.ticks.now.items = subst (λ (l : List ℕ). c.loop-tick.tick-index < length l) c.deref_mut-tick-items.ensures.value c.loop-tick-test.true in
    ap (λ (t : ℕ). slice_set ticks c.loop-tick.tick-index t) c.count_on.ensures
    ∙ map_over_more (ticks_after c.args.seconds) c.args.ticks.now.items ticks c.loop-tick.tick-index tick within c.loop-tick.invariant (get_or_default ticks c.loop-tick.tick-index 0 tick here)
