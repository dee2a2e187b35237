use Rattle.std.proofs.Common.{List, map, ap, ◌∙◌}
use Rattle.std.proofs.lemmas.Result.{IfOk-weaker}
use Rattle.lsdb.specs.declared.held.Held.{Held}
use Rattle.lsdb.specs.Database.{keyed, flagged_from, flagged_places}
use Rattle.lsdb.proofs.FlaggedPlaces.{flagged_map}
use Rattle.lsdb.proofs.database.Database.flagged_places.Goals as goal

pub returns : goal.returns
returns c =
    IfOk-weaker c.flagged_places.result _ _
    (λ places is. is ∙ (ap (λ (hs : List Held). flagged_from 0 (map keyed hs)) c.deref.ensures.value
    ∙ (flagged_map c.self.inside.held.items c.self.invariant.0.sorted ∙ ap flagged_places c.self.view_is))) c.flagged_places.ensures
