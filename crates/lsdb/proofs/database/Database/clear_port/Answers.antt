use Rattle.std.proofs.Common.{ap, ◌∙◌}
use Rattle.lsdb.specs.Entry.{flags_cleared_at}
use Rattle.lsdb.specs.Database.{Lsps, each}
use Rattle.lsdb.proofs.Maps.{each_sound, each_map}
use Rattle.lsdb.proofs.database.Database.clear_port.Goals as goal

pub invariant_of-self : goal.invariant_of-self
invariant_of-self c = (rw c.clear_all_flags.ensures (each_sound (flags_cleared_at c.args.port) _ ((λ e clean. clean)) c.self.invariant.0), cc)

pub returns : goal.returns
returns c = rw c.clear_all_flags.ensures (each_map (flags_cleared_at c.args.port) _ c.self.invariant.0.sorted ∙ ap (λ (db : Lsps). each (λ id e. (flags_cleared_at c.args.port) e) db) c.self.view_is)
