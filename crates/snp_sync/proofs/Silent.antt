-- A port at which nothing is to be acknowledged or asked for: there is nothing to clear.
use Rattle.std.specs.Prelude.{◌≡◌, ℕ, Bool, true, false, List, [], ◌∷◌, map, filter, length, if◌then◌else◌}
use Rattle.std.proofs.Common.{refl, sym, ap, ◌∙◌, subst, arith}
use Rattle.std.specs.Prelude.{T}
use Rattle.std.specs.FinMap.{is_sorted, entries, entries_sorted, from_sorted, entries-from_sorted, same_entries_map}
use Rattle.spb_types.specs.declared.address.LspId.{LspId}
use Rattle.spb_types.specs.Ports.{has}
use Rattle.lsdb.specs.Entry.{Entry, with_ssn}
use Rattle.lsdb.specs.Database.{Lsps, id_cmp, each}
use Rattle.snp_sync.specs.SnpEntries.{snp_entry_of, snp_entries_where, has_ssn_at}
use Rattle.snp_sync.specs.Sending.{ssn_cleared, all_ssn_cleared}

pub nil_from : {A : Type 0} (xs : List A) → length xs ≡ 0 → xs ≡ []
nil_from [] e = refl
nil_from (x ∷ xs) e = absurd (omega arith)

same_pairs : (port : ℕ) (es : List (LspId × Entry)) → map (λ e. snp_entry_of e.0 e.1) (filter (λ e. has_ssn_at port e.1) es) ≡ [] → map (λ (e : LspId × Entry). (e.0, ssn_cleared port e.1)) es ≡ es
same_pairs port [] none = refl
same_pairs port (e ∷ es) none = by_test (has e.1.ssn port) refl (same_pairs port es)
  where
    by_test : (b : Bool) → has e.1.ssn port ≡ b → (map (λ (d : LspId × Entry). snp_entry_of d.0 d.1) (filter (λ (d : LspId × Entry). has_ssn_at port d.1) es) ≡ [] → map (λ (d : LspId × Entry). (d.0, ssn_cleared port d.1)) es ≡ es) → map (λ (d : LspId × Entry). (d.0, ssn_cleared port d.1)) (e ∷ es) ≡ e ∷ es
    by_test true t next = let some = (rw t at none) in absurd (cc)
    by_test false t next =
        let rest = (rw t at none) in
        λ i. (e.0, ap (λ b. if b then with_ssn port false e.1 else e.1) t i) ∷ next rest i

pub none_cleared : (port : ℕ) (db : Lsps) → snp_entries_where (has_ssn_at port) db ≡ [] → db ≡ all_ssn_cleared port db
unfolding each
none_cleared port db none =
    let same = same_pairs port (entries db) none in
    same_entries_map db (from_sorted (map (λ (e : LspId × Entry). (e.0, ssn_cleared port e.1)) (entries db)))
    (sym (entries-from_sorted id_cmp (map (λ (e : LspId × Entry). (e.0, ssn_cleared port e.1)) (entries db)) (subst (λ (es : List (LspId × Entry)). T (is_sorted id_cmp es)) (sym same) (entries_sorted db)) ∙ same))
