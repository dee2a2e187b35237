use Rattle.std.proofs.Common.{rules, ◌≡◌, ◌<◌, ◌≤◌, ◌||◌, List, map, take, drop, ◌++◌, length, arith, slice_set, sym, ap, subst, ◌∙◌}
use Rattle.std.proofs.lemmas.Grind.{common_steps}
use Rattle.std.specs.List.{list_any}
use Rattle.std.proofs.lemmas.List.Edits.{map_over_more}
use Rattle.std.proofs.lemmas.List.{take_all}
use Rattle.lsdb.specs.declared.held.Held.{Held}
use Rattle.lsdb.specs.Entry.{entry_of, has_ports, has_flags, aged}
use Rattle.lsdb.specs.Place.{with_entry}
use Rattle.lsdb.proofs.Flags.{none_at_all, flags_more, flags_mapped}
use Rattle.lsdb.proofs.database.age_all.Goals as goal

pub loop-h-init : goal.loop-h-init
loop-h-init c = (search rules, ap has_ports c.none-flagged.ensures ∙ none_at_all)

pub loop-h-preserved : goal.loop-h-preserved
loop-h-preserved c =
    let within : c.loop-h.h-index < length c.args.held.now.items = subst (λ (l : List Held). c.loop-h.h-index < length l) c.deref_mut-h-items.ensures.value c.loop-h-test.true in
    let changed = c.age.ensures ∙ ap (λ (h : Held). with_entry (aged c.args.up) h) (sym c.h-item.is) in (
      ap (λ (g : Held). slice_set c.loop-h.h-items c.loop-h.h-index g) changed
          ∙ map_over_more (with_entry (aged c.args.up)) c.args.held.now.items c.loop-h.h-items c.loop-h.h-index c.h-item.result within c.loop-h.invariant.0 c.h-item.is,
      c.with_flags_of-flagged.ensures
          ∙ (λ i. c.loop-h.invariant.1 i || ap (λ (h : Held). has_flags (entry_of h)) changed i)
          ∙ flags_more (aged c.args.up) c.args.held.now.items c.loop-h.h-items c.loop-h.h-index c.h-item.result within c.loop-h.invariant.0 c.h-item.is,
    )

pub returns-clause-flags : goal.returns-clause-flags
returns-clause-flags c =
    let past : length c.args.held.now.items ≤ c.loop-h.h-index = subst (λ (l : List Held). length l ≤ c.loop-h.h-index) c.deref_mut-h-items.ensures.value c.loop-h-test.false in
    let whole : take c.args.held.now.len (c.loop-h.h-items ++ drop (length c.loop-h.h-items) c.args.held.now.items) ≡ map (with_entry (aged c.args.up)) c.args.held.now.items = grind (arith, common_steps) in
    c.has_ports.ensures ∙ c.loop-h.invariant.1 ∙ ap (list_any (λ (h : Held). has_flags (aged c.args.up (entry_of h)))) (take_all c.loop-h.h-index c.args.held.now.items past)
    ∙ flags_mapped (aged c.args.up) c.args.held.now.items ∙ ap (list_any (λ (h : Held). has_flags (entry_of h))) (sym whole)
