use Rattle.std.proofs.Common.{List, IfSome, refl, sym, ap, subst, ◌∙◌}
use Rattle.lsdb.specs.declared.held.Held.{Held}
use Rattle.lsdb.specs.Entry.{aged}
use Rattle.lsdb.specs.Database.{Lsps, each}
use Rattle.lsdb.specs.Place.{IsSound}
use Rattle.lsdb.specs.Calm.{AreCalm}
use Rattle.lsdb.proofs.Maps.{each_sound, each_map, aged_clean}
use Rattle.lsdb.proofs.Flags.{flags_map}
use Rattle.lsdb.proofs.database.Database.age_one.Goals as goal

pub returns-then-pass_calm_second-clause-aged : goal.returns-then-pass_calm_second-clause-aged
returns-then-pass_calm_second-clause-aged c = c.if-pass_calm_second.ensures.aged refl c.args.up

pub invariant_of-self : goal.invariant_of-self
invariant_of-self c = (
  rw c.age_all-flags.ensures.items (each_sound (aged c.args.up) _ (aged_clean c.args.up) c.self.invariant.0),
  subst (λ (hs : List Held). IfSome c.calm_in-self-inside.result (λ seconds. AreCalm seconds hs)) c.deref.ensures.value c.calm_in-self-inside.ensures,
)

pub returns-clause-aged : goal.returns-clause-aged
returns-clause-aged c = rw c.age_all-flags.ensures.items (each_map (aged c.args.up) _ c.self.invariant.0.sorted ∙ ap (λ (db : Lsps). each (λ id e. (aged c.args.up) e) db) (c.self.view_is ∙ c.if-pass_calm_second.ensures.kept refl))

pub returns-clause-flags : goal.returns-clause-flags
returns-clause-flags c =
    let sound : IsSound c.age_all-flags.new.held.items = rw c.age_all-flags.ensures.items (each_sound (aged c.args.up) _ (aged_clean c.args.up) c.self.invariant.0) in
    c.age_all-flags.ensures.flags ∙ sym (flags_map c.age_all-flags.new.held.items sound.sorted)
