use Rattle.std.proofs.Common.{sym, ◌∙◌}
use Rattle.lsdb.proofs.Calm.{calm_from}
use Rattle.lsdb.proofs.database.calm_in.Goals as goal

pub returns-else-flags : goal.returns-else-flags
returns-else-flags c = calm_from _ _ (sym c.requires ∙ c.if-flags.false) c.seconds_left.ensures
