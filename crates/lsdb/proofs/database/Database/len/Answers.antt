use Rattle.std.proofs.Common.{◌≡◌, length, rules, sym, ap, ◌∙◌}
use Rattle.std.specs.FinMap.{len}
use Rattle.lsdb.specs.Database.{Lsps}
use Rattle.lsdb.proofs.Maps.{len_map}
use Rattle.lsdb.proofs.database.Database.len.Goals as goal

pub returns-clause-len : goal.returns-clause-len
returns-clause-len c =
    let length_is : c.len.result ≡ length c.self.inside.held.items = search rules in
    length_is ∙ sym (len_map _ c.self.invariant.0.sorted) ∙ ap (λ (db : Lsps). len db) c.self.view_is
