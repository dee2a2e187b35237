use Rattle.std.proofs.Common.{◌≤◌, ◌-◌, ◌+◌, ℕ, Option, IfSome, arith, rules, ap, subst, ◌∙◌}
use Rattle.spb_types.specs.Ports.{no_ports}
use Rattle.lsdb.specs.Entry.{aged}
use Rattle.lsdb.specs.Database.{Lsps, each}
use Rattle.lsdb.specs.Place.{IsSound}
use Rattle.lsdb.specs.Calm.{AreCalm}
use Rattle.lsdb.proofs.Maps.{each_sound, each_map, aged_clean}
use Rattle.lsdb.proofs.Flags.{flags_map}
use Rattle.lsdb.proofs.Calm.{calm_second, calm_left, calm_flags}
use Rattle.lsdb.proofs.database.Database.pass_calm_second.Goals as goal

pub invariant_of-self : goal.invariant_of-self
invariant_of-self c =
    let some : 1 ≤ c.in-Some.seconds = search rules in
    let calm = subst (λ (o : Option ℕ). IfSome o (λ seconds. AreCalm seconds c.self.inside.held.items)) c.in-Some.is c.self.invariant.1 in
    let second = c.lower_all.ensures ∙ calm_second no_ports _ _ some c.self.invariant.0.clean calm in
    let more : AreCalm (c.in-Some.seconds - 1 + 1) c.self.inside.held.items = subst (λ n. AreCalm n c.self.inside.held.items) (omega (arith, some)) calm in
    (rw second (each_sound (aged no_ports) _ (aged_clean no_ports) c.self.invariant.0), rw c.lower_all.ensures (calm_left _ 1 _ more))

pub returns-clause-aged : goal.returns-clause-aged
returns-clause-aged c = λ i up.
    let some : 1 ≤ c.in-Some.seconds = search rules in
    let calm = subst (λ (o : Option ℕ). IfSome o (λ seconds. AreCalm seconds c.self.inside.held.items)) c.in-Some.is c.self.invariant.1 in
    let second = c.lower_all.ensures ∙ calm_second up _ _ some c.self.invariant.0.clean calm in
    rw second (each_map (aged up) _ c.self.invariant.0.sorted ∙ ap (λ (db : Lsps). each (λ id e. (aged up) e) db) c.self.view_is)

pub returns-clause-flags : goal.returns-clause-flags
returns-clause-flags c = λ i.
    let some : 1 ≤ c.in-Some.seconds = search rules in
    let calm = subst (λ (o : Option ℕ). IfSome o (λ seconds. AreCalm seconds c.self.inside.held.items)) c.in-Some.is c.self.invariant.1 in
    let second = c.lower_all.ensures ∙ calm_second no_ports _ _ some c.self.invariant.0.clean calm in
    let more : AreCalm (c.in-Some.seconds - 1 + 1) c.self.inside.held.items = subst (λ n. AreCalm n c.self.inside.held.items) (omega (arith, some)) calm in
    let sound : IsSound c.lower_all.new.held.items = rw second (each_sound (aged no_ports) _ (aged_clean no_ports) c.self.invariant.0) in
    flags_map c.lower_all.new.held.items sound.sorted ∙ rw c.lower_all.ensures (calm_flags _ _ (calm_left _ 1 _ more))
