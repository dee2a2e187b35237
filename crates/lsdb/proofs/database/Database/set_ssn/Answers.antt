use Rattle.lsdb.specs.Entry.{with_ssn}
use Rattle.lsdb.proofs.Maps.{write_sound, write_map, skip_map}
use Rattle.lsdb.proofs.database.Database.set_ssn.Goals as goal

pub invariant_of-self : goal.invariant_of-self
invariant_of-self c = (write_sound _ _ c.deref.ensures.value _ _ c.in-Ok.ensures.found c.self.invariant.0 (with_ssn c.args.port c.args.on) _ _ c.index_mut.ensures.value c.set_ssn.ensures (λ clean. clean), cc)

pub returns-in-Ok : goal.returns-in-Ok
returns-in-Ok c = write_map _ _ c.deref.ensures.value _ _ c.in-Ok.ensures.found c.self.invariant.0 (with_ssn c.args.port c.args.on) _ _ c.index_mut.ensures.value c.set_ssn.ensures _ c.self.view_is

pub returns-in-Err : goal.returns-in-Err
returns-in-Err c = skip_map _ _ c.deref.ensures.value _ _ c.in-Err.ensures.absent c.self.invariant.0 (with_ssn c.args.port c.args.on) _ c.self.view_is
