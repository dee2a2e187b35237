use Rattle.std.proofs.Common.{ℕ, List, sym, subst, ◌∙◌}
use Rattle.std.specs.FinMap.{entries}
use Rattle.lsdb.specs.Database.{AreFlagsAt}
use Rattle.lsdb.proofs.FlaggedPlaces.{flags_at_places}
use Rattle.snp_sync.proofs.sending.psnps.Goals as goal

pub entries_with_ssn-requires-clause-places : goal.entries_with_ssn-requires-clause-places
entries_with_ssn-requires-clause-places c =
    subst (λ (ps : List ℕ). AreFlagsAt 0 ps (entries c.args.db.now)) (sym (c.deref.ensures.value ∙ c.in_ok-places.ensures)) (flags_at_places c.args.db.now)

pub clear_ssn-requires-clause-places : goal.clear_ssn-requires-clause-places
clear_ssn-requires-clause-places c =
    subst (λ (ps : List ℕ). AreFlagsAt 0 ps (entries c.args.db.now)) (sym (c.deref-3.ensures.value ∙ c.in_ok-places.ensures)) (flags_at_places c.args.db.now)
