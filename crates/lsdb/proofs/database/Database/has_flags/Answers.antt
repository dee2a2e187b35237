use Rattle.std.proofs.Common.{rules, tests, sym, ap, ◌∙◌}
use Rattle.std.proofs.lemmas.Iterator.{YieldsList-from_slice}
use Rattle.std.proofs.lemmas.Iterator.Search.{any_from_yields_List}
use Rattle.std.specs.List.{list_any}
use Rattle.lsdb.specs.declared.held.Held.{Held}
use Rattle.lsdb.specs.Entry.{entry_of, has_flags}
use Rattle.lsdb.specs.Database.{Lsps, any_flags}
use Rattle.lsdb.proofs.Flags.{flags_map}
use Rattle.lsdb.proofs.database.Database.has_flags.Goals as goal

pub returns : goal.returns
returns c =
    let all = YieldsList-from_slice c.deref.result.now c.iter.ensures.rest in
    any_from_yields_List (λ (h : Held). has_flags (entry_of h)) _ _ c.any.result c.any.ensures.ran all (λ x b q k. search (rules, tests))
    ∙ ap (list_any (λ (h : Held). has_flags (entry_of h))) c.deref.ensures.value
    ∙ sym (flags_map c.self.inside.held.items c.self.invariant.0.sorted) ∙ ap (λ (db : Lsps). any_flags db) c.self.view_is
