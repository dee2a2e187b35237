use Rattle.std.proofs.Common.{sym}
use Rattle.lsdb.proofs.Maps.{found_map, missing_map}
use Rattle.lsdb.proofs.database.Database.find.Goals as goal

pub returns-in-Ok-clause-entry : goal.returns-in-Ok-clause-entry
returns-in-Ok-clause-entry c = sym (found_map _ _ c.deref.ensures.value _ _ c.in-Ok.ensures.found c.self.invariant.0 _ c.index.ensures _ c.self.view_is)

pub returns-in-Err-clause-entry : goal.returns-in-Err-clause-entry
returns-in-Err-clause-entry c = sym (missing_map _ _ c.deref.ensures.value _ _ c.in-Err.ensures.absent c.self.invariant.0 _ c.self.view_is)
