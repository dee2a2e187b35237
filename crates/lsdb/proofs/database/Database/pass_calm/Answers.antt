use Rattle.std.proofs.Common.{sym, ap, subst, ◌∙◌}
use Rattle.lsdb.specs.Database.{Lsps, each}
use Rattle.lsdb.specs.Calm.{HaveLeft, lowered_by}
use Rattle.lsdb.proofs.Maps.{each_map}
use Rattle.lsdb.proofs.Calm.{left_sound, known_left}
use Rattle.lsdb.proofs.database.Database.pass_calm.Goals as goal

pub invariant_of-self : goal.invariant_of-self
invariant_of-self c =
    let left = subst (λ (db : Lsps). HaveLeft c.args.seconds db) (sym c.self.view_is) c.requires in (
      rw c.lower_all.ensures (left_sound c.args.seconds _ c.self.invariant.0 left),
      rw c.lower_all.ensures (known_left c.args.seconds _ _ _ c.calm_after-self-inside.ensures c.self.invariant.1),
    )

pub returns : goal.returns
returns c =
    rw c.lower_all.ensures (each_map (lowered_by c.args.seconds) _ c.self.invariant.0.sorted ∙ ap (λ (db : Lsps). each (λ id e. lowered_by c.args.seconds e) db) c.self.view_is)
