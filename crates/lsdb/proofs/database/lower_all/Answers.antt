use Rattle.std.proofs.Common.{◌<◌, List, length, slice_set, sym, ap, subst, ◌∙◌}
use Rattle.std.proofs.lemmas.List.Edits.{map_over_more}
use Rattle.lsdb.specs.declared.held.Held.{Held}
use Rattle.lsdb.specs.Calm.{lowered_by}
use Rattle.lsdb.specs.Place.{with_entry}
use Rattle.lsdb.proofs.database.lower_all.Goals as goal

pub loop-h-preserved : goal.loop-h-preserved
loop-h-preserved c =
    let within : c.loop-h.h-index < length c.args.held.now.items = subst (λ (l : List Held). c.loop-h.h-index < length l) c.deref_mut-h-items.ensures.value c.loop-h-test.true in
    ap (λ (g : Held). slice_set c.loop-h.h-items c.loop-h.h-index g) (c.lower.ensures ∙ ap (λ (h : Held). with_entry (lowered_by c.args.seconds) h) (sym c.h-item.is))
    ∙ map_over_more (with_entry (lowered_by c.args.seconds)) c.args.held.now.items c.loop-h.h-items c.loop-h.h-index c.h-item.result within c.loop-h.invariant c.h-item.is
