use Rattle.std.proofs.Common.{refl, sym, ap, ◌∙◌, true≢false}
use Rattle.std.specs.Prelude.{is_some}
use Rattle.lsdb.specs.Entry.{raised}
use Rattle.lsdb.proofs.Maps.{write_sound, write_map, skip_map, found_map, missing_map, made_clean}
use Rattle.lsdb.proofs.database.Database.raise.Goals as goal

pub invariant_of-self : goal.invariant_of-self
invariant_of-self c = (write_sound _ _ c.deref.ensures.value _ _ c.in-Ok.ensures.found c.self.invariant.0 (raised c.args.to c.args.lifetime c.args.body.items) _ _ c.index_mut.ensures.value c.raise.ensures (λ clean. made_clean _ _ _ c.index_mut.result.now.srm c.index_mut.result.now.ssn c.requires.can), cc)

pub returns-in-Ok-clause-held : goal.returns-in-Ok-clause-held
returns-in-Ok-clause-held c =
    let found = found_map _ _ c.deref.ensures.value _ _ c.in-Ok.ensures.found c.self.invariant.0 _ c.index_mut.ensures.value _ c.self.view_is in
    (λ e. absurd (cc), λ none. absurd (true≢false (sym (ap is_some found) ∙ none)))

pub returns-in-Ok-clause-entry : goal.returns-in-Ok-clause-entry
returns-in-Ok-clause-entry c = write_map _ _ c.deref.ensures.value _ _ c.in-Ok.ensures.found c.self.invariant.0 (raised c.args.to c.args.lifetime c.args.body.items) _ _ c.index_mut.ensures.value c.raise.ensures _ c.self.view_is

pub returns-in-Err-clause-held : goal.returns-in-Err-clause-held
returns-in-Err-clause-held c =
    let none = missing_map _ _ c.deref.ensures.value _ _ c.in-Err.ensures.absent c.self.invariant.0 _ c.self.view_is in
    (λ e. ap is_some none, λ e. refl)

pub returns-in-Err-clause-entry : goal.returns-in-Err-clause-entry
returns-in-Err-clause-entry c = skip_map _ _ c.deref.ensures.value _ _ c.in-Err.ensures.absent c.self.invariant.0 (raised c.args.to c.args.lifetime c.args.body.items) _ c.self.view_is
