use Rattle.std.proofs.Common.{◌<◌, ◌≤◌, true≢false, length, rules, refl, sym, ◌∙◌}
use Rattle.std.proofs.lemmas.Bool.{le-ltb, lt-ltb}
use Rattle.std.proofs.lemmas.Result.{err_from_is_err_and}
use Rattle.lsdb.proofs.Maps.{put_over_sound, put_new_sound, put_over_map, put_new_map, put_over_fits, put_new_fits}
use Rattle.lsdb.proofs.database.Database.put_near.Goals as goal
use Rattle.spb_types.specs.declared.limits.TheConstants.{MOST_LSPS}

-- the id was held
pub invariant_of-self : goal.invariant_of-self
invariant_of-self c = (put_over_sound _ _ c.deref.ensures.value c.clean.new.held _ c.in-Ok.ensures.found c.self.invariant.0 c.args.held c.clean.ensures c.requires, cc)

pub returns-in-Ok-clause-ok : goal.returns-in-Ok-clause-ok
returns-in-Ok-clause-ok c = put_over_map _ _ c.deref.ensures.value c.clean.new.held _ c.in-Ok.ensures.found c.self.invariant.0 c.args.held c.clean.ensures _ c.self.view_is

pub returns-in-Ok-clause-full : goal.returns-in-Ok-clause-full
returns-in-Ok-clause-full c =
    let fits_it = put_over_fits _ _ c.deref.ensures.value c.clean.new.held _ c.in-Ok.ensures.found c.self.invariant.0 c.args.held c.clean.ensures _ c.self.view_is in
    (λ e. absurd (cc), λ none. absurd (true≢false (sym fits_it ∙ none)))

-- it is new, and there is no place
pub returns-then-len-ge-MOST_LSPS-clause-full : goal.returns-then-len-ge-MOST_LSPS-clause-full
returns-then-len-ge-MOST_LSPS-clause-full c =
    let past : MOST_LSPS ≤ length c.self.inside.held.items = search rules in
    let none = put_new_fits _ _ c.deref.ensures.value c.clean.new.held _ c.in-Err.ensures.absent c.self.invariant.0 c.args.held c.clean.ensures _ c.self.view_is ∙ le-ltb _ _ past in
    (λ e. none, λ e. refl)

-- it is new, and there is a place
pub returns-in_err-insert-in-Err-clause-full : goal.returns-in_err-insert-in-Err-clause-full
returns-in_err-insert-in-Err-clause-full c =
    let room : length c.self.inside.held.items < MOST_LSPS = search rules in
    let fits_it = put_new_fits _ _ c.deref.ensures.value c.clean.new.held _ c.in-Err.ensures.absent c.self.invariant.0 c.args.held c.clean.ensures _ c.self.view_is ∙ lt-ltb _ _ room in
    let p = err_from_is_err_and c.from_residual.result c.from_residual.ensures.1 in
    rw (p.1, p.2) (λ e. absurd (cc), λ none. absurd (true≢false (sym fits_it ∙ none)))

pub invariant_of-self-in-Err : goal.invariant_of-self-in-Err
invariant_of-self-in-Err c =
    let room : length c.self.inside.held.items < MOST_LSPS = search rules in
    (rw c.in_ok-insert-in-Err.ensures.items (put_new_sound _ _ c.deref.ensures.value c.clean.new.held _ c.in-Err.ensures.absent c.self.invariant.0 room c.args.held c.clean.ensures c.requires), cc)

pub returns-in_ok-insert-in-Err-clause-ok : goal.returns-in_ok-insert-in-Err-clause-ok
returns-in_ok-insert-in-Err-clause-ok c =
    rw c.in_ok-insert-in-Err.ensures.items (put_new_map _ _ c.deref.ensures.value c.clean.new.held _ c.in-Err.ensures.absent c.self.invariant.0 c.args.held c.clean.ensures _ c.self.view_is)

pub returns-in_ok-insert-in-Err-clause-full : goal.returns-in_ok-insert-in-Err-clause-full
returns-in_ok-insert-in-Err-clause-full c =
    let room : length c.self.inside.held.items < MOST_LSPS = search rules in
    let fits_it = put_new_fits _ _ c.deref.ensures.value c.clean.new.held _ c.in-Err.ensures.absent c.self.invariant.0 c.args.held c.clean.ensures _ c.self.view_is ∙ lt-ltb _ _ room in
    (λ e. absurd (cc), λ none. absurd (true≢false (sym fits_it ∙ none)))
