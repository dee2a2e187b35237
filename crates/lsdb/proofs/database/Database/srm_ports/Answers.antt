use Rattle.std.proofs.Common.{ap, sym, ◌∙◌}
use Rattle.std.specs.List.{list_any}
use Rattle.spb_types.specs.Ports.{has}
use Rattle.lsdb.specs.declared.held.Held.{Held}
use Rattle.lsdb.specs.Database.{Lsps, is_srm_at}
use Rattle.lsdb.proofs.Flags.{srm_map}
use Rattle.lsdb.proofs.database.Database.srm_ports.Goals as goal

pub returns : goal.returns
returns c = λ p.
    c.srm_ports.ensures p ∙ ap (list_any (λ (h : Held). has h.srm p)) c.deref.ensures.value
    ∙ sym (srm_map p c.self.inside.held.items c.self.invariant.0.sorted) ∙ ap (λ (db : Lsps). is_srm_at p db) c.self.view_is
