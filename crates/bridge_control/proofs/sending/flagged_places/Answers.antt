use Rattle.std.proofs.Common.{ℕ, List, sym, subst}
use Rattle.std.specs.FinMap.{entries}
use Rattle.std.proofs.lemmas.Result.{IfOk-weaker}
use Rattle.lsdb.specs.Database.{AreFlagsAt}
use Rattle.lsdb.proofs.FlaggedPlaces.{flags_at_places}
use Rattle.bridge_control.proofs.sending.flagged_places.Goals as goal

pub returns-else-has_flags : goal.returns-else-has_flags
returns-else-has_flags c = subst (λ (ps : List ℕ). AreFlagsAt 0 ps (entries c.args.db.now)) (sym c.new.ensures.items) (c.requires c.if-has_flags.false)

pub returns-then-has_flags : goal.returns-then-has_flags
returns-then-has_flags c =
    IfOk-weaker c.flagged_places.result _ _
    (λ places is. subst (λ (ps : List ℕ). AreFlagsAt 0 ps (entries c.args.db.now)) (sym is) (flags_at_places c.args.db.now)) c.flagged_places.ensures
