use Rattle.std.proofs.Common.{◌≡◌, false, Option, refl, subst}
use Rattle.lsdb.specs.Version.{is_absent}
use Rattle.lsdb.specs.Database.{version_in}
use Rattle.lsdb.specs.Entry.{Entry, entry_of, purged}
use Rattle.lsdb.proofs.Maps.{write_sound, write_map, skip_map, found_map, place_clean, has_body}
use Rattle.lsdb.proofs.database.Database.purge.Goals as goal

pub purge-requires : goal.purge-requires
purge-requires c =
    let found = found_map _ _ c.deref.ensures.value _ _ c.in-Ok.ensures.found c.self.invariant.0 _ c.index_mut.ensures.value _ c.self.view_is in
    let there = subst (λ (o : Option Entry). is_absent (version_in o) ≡ false) found c.requires in
    has_body (entry_of c.index_mut.result.now) (place_clean _ _ c.deref.ensures.value _ _ c.in-Ok.ensures.found c.self.invariant.0 _ c.index_mut.ensures.value) there

pub invariant_of-self : goal.invariant_of-self
invariant_of-self c = (write_sound _ _ c.deref.ensures.value _ _ c.in-Ok.ensures.found c.self.invariant.0 (purged c.args.seq c.args.srm) _ _ c.index_mut.ensures.value c.purge.ensures (λ clean. (refl, refl)), cc)

pub returns-in-Ok : goal.returns-in-Ok
returns-in-Ok c = write_map _ _ c.deref.ensures.value _ _ c.in-Ok.ensures.found c.self.invariant.0 (purged c.args.seq c.args.srm) _ _ c.index_mut.ensures.value c.purge.ensures _ c.self.view_is

pub returns-in-Err : goal.returns-in-Err
returns-in-Err c = skip_map _ _ c.deref.ensures.value _ _ c.in-Err.ensures.absent c.self.invariant.0 (purged c.args.seq c.args.srm) _ c.self.view_is
