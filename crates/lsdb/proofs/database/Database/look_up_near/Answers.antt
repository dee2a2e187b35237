use Rattle.lsdb.proofs.Maps.{held_at, version_held, version_missing, missing_map}
use Rattle.lsdb.proofs.database.Database.look_up_near.Goals as goal

pub returns-in-Ok-clause-place : goal.returns-in-Ok-clause-place
returns-in-Ok-clause-place c = held_at _ _ c.deref.ensures.value _ _ c.in-Ok.ensures.found c.self.invariant.0 _ c.index.ensures _ c.self.view_is

pub returns-in-Ok-clause-version : goal.returns-in-Ok-clause-version
returns-in-Ok-clause-version c = version_held _ _ c.deref.ensures.value _ _ c.in-Ok.ensures.found c.self.invariant.0 _ c.index.ensures _ c.self.view_is

pub returns-in-Err-clause-place : goal.returns-in-Err-clause-place
returns-in-Err-clause-place c = missing_map _ _ c.deref.ensures.value _ _ c.in-Err.ensures.absent c.self.invariant.0 _ c.self.view_is

pub returns-in-Err-clause-version : goal.returns-in-Err-clause-version
returns-in-Err-clause-version c = version_missing _ _ c.deref.ensures.value _ _ c.in-Err.ensures.absent c.self.invariant.0 _ c.self.view_is
