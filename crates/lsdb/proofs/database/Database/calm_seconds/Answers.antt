use Rattle.std.proofs.Common.{ℕ, Option, IfSome, sym, ap, subst, ◌∙◌}
use Rattle.lsdb.specs.Database.{Lsps, any_flags}
use Rattle.lsdb.specs.Calm.{AreCalm, HaveLeft}
use Rattle.lsdb.proofs.Flags.{flags_map}
use Rattle.lsdb.proofs.Calm.{calm_flags, calm_lives}
use Rattle.lsdb.proofs.database.Database.calm_seconds.Goals as goal

pub returns-in-Some-clause-flags : goal.returns-in-Some-clause-flags
returns-in-Some-clause-flags c = λ some.
    let calm = subst (λ (o : Option ℕ). IfSome o (λ seconds. AreCalm seconds c.self.inside.held.items)) c.in-Some.is c.self.invariant.1 in
    ap (λ (db : Lsps). any_flags db) (sym c.self.view_is) ∙ flags_map c.self.inside.held.items c.self.invariant.0.sorted ∙ calm_flags _ _ calm

pub returns-in-Some-clause-left : goal.returns-in-Some-clause-left
returns-in-Some-clause-left c = λ some.
    let calm = subst (λ (o : Option ℕ). IfSome o (λ seconds. AreCalm seconds c.self.inside.held.items)) c.in-Some.is c.self.invariant.1 in
    subst (λ (db : Lsps). HaveLeft c.in-Some.seconds db) c.self.view_is (calm_lives _ _ c.self.invariant.0 calm)
