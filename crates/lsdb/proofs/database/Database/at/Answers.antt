use Rattle.std.proofs.Common.{◌<◌, ◌≤◌, length, slice_get, rules, sym, ap, ◌∙◌}
use Rattle.std.specs.FinMap.{entries}
use Rattle.lsdb.specs.Database.{Lsps}
use Rattle.lsdb.proofs.Maps.{entries_map, get_keyed, past_keyed}
use Rattle.lsdb.proofs.database.Database.at.Goals as goal

pub returns-then-place-len-clause-entry : goal.returns-then-place-len-clause-entry
returns-then-place-len-clause-entry c =
    let within : c.args.place < length c.self.inside.held.items = search rules in
    sym (ap (λ (db : Lsps). slice_get (entries db) c.args.place) (sym c.self.view_is) ∙ ap (λ es. slice_get es c.args.place) (entries_map _ c.self.invariant.0.sorted) ∙ get_keyed _ _ _ within c.index.ensures)

pub returns-else-place-len-clause-entry : goal.returns-else-place-len-clause-entry
returns-else-place-len-clause-entry c =
    let past : length c.self.inside.held.items ≤ c.args.place = search rules in
    sym (ap (λ (db : Lsps). slice_get (entries db) c.args.place) (sym c.self.view_is) ∙ ap (λ es. slice_get es c.args.place) (entries_map _ c.self.invariant.0.sorted) ∙ past_keyed _ _ past)
