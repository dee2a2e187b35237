-- The entries of LSPs that pass a test, gathered place by place.
use Rattle.std.specs.Prelude.{◌≡◌, ℕ, zero, suc, ◌+◌, ◌≤◌, Bool, true, false, List, [], ◌∷◌, ◌++◌, map, filter, take, Option, Some, None, slice_get, if◌then◌else◌}
use Rattle.std.proofs.Common.{refl, sym, ap, subst, ◌∙◌, add-one, append-nil}
use Rattle.std.specs.FinMap.{entries, len, len-entries}
use Rattle.std.proofs.lemmas.List.{take_all}
use Rattle.spb_types.specs.declared.address.LspId.{LspId}
use Rattle.spb_tlvs.specs.declared.entries.SnpEntry.{SnpEntry}
use Rattle.lsdb.specs.Entry.{Entry}
use Rattle.lsdb.specs.Database.{Lsps}
use Rattle.snp_sync.specs.SnpEntries.{snp_entry_of, snp_entries_where, entry_where as added}

-- the entries of those LSPs that pass the test
abbrev pub gathered : (Entry → Bool) → List (LspId × Entry) → List SnpEntry
gathered test es = map (λ e. snp_entry_of e.0 e.1) (filter (λ e. test e.1) es)

-- an entry that fails the test adds nothing
add_first : (test : Entry → Bool) (e : LspId × Entry) (es fs : List (LspId × Entry)) (more : List SnpEntry) → gathered test fs ≡ gathered test es ++ more → gathered test (e ∷ fs) ≡ gathered test (e ∷ es) ++ more
add_first test e es fs more h = by_test (test e.1) refl
  where
    by_test : (b : Bool) → test e.1 ≡ b → gathered test (e ∷ fs) ≡ gathered test (e ∷ es) ++ more
    by_test true t = rw t (ap (λ (ls : List SnpEntry). snp_entry_of e.0 e.1 ∷ ls) h)
    by_test false t = rw t h

add_one : (test : Entry → Bool) (e : LspId × Entry) → gathered test (e ∷ []) ≡ added test (Some e)
add_one test e = by_test (test e.1) refl
  where
    by_test : (b : Bool) → test e.1 ≡ b → gathered test (e ∷ []) ≡ added test (Some e)
    by_test true t = rw t refl
    by_test false t = rw t refl

pub gathered_more : (test : Entry → Bool) (es : List (LspId × Entry)) (k : ℕ) (o : Option (LspId × Entry)) → slice_get es k ≡ o → gathered test (take (suc k) es) ≡ gathered test (take k es) ++ added test o
gathered_more test [] zero o is = rw (← is) refl
gathered_more test [] (suc k) o is = rw (← is) refl
gathered_more test (e ∷ es) zero o is = add_one test e ∙ ap (added test) is
gathered_more test (e ∷ es) (suc k) o is = add_first test e (take k es) (take (suc k) es) (added test o) (gathered_more test es k o is)

-- the next entry passes the test, or fails it, or there is none
pub take_entry : (test : Entry → Bool) (es : List (LspId × Entry)) (k : ℕ) (e : LspId × Entry) → Some e ≡ slice_get es k → true ≡ test e.1 → (old new : List SnpEntry) → old ≡ gathered test (take k es) → new ≡ old ++ snp_entry_of e.0 e.1 ∷ [] → new ≡ gathered test (take (k + 1) es)
take_entry test es k e at passes old new before is =
    is ∙ ap (λ (ls : List SnpEntry). ls ++ snp_entry_of e.0 e.1 ∷ []) before
    ∙ sym (ap (λ n. gathered test (take n es)) (add-one k) ∙ gathered_more test es k (Some e) (sym at) ∙ ap (λ b. gathered test (take k es) ++ (if b then snp_entry_of e.0 e.1 ∷ [] else [])) (sym passes))

pub pass_entry : (test : Entry → Bool) (es : List (LspId × Entry)) (k : ℕ) (e : LspId × Entry) → Some e ≡ slice_get es k → false ≡ test e.1 → (old new : List SnpEntry) → old ≡ gathered test (take k es) → new ≡ old → new ≡ gathered test (take (k + 1) es)
pass_entry test es k e at fails old new before is =
    is ∙ before
    ∙ sym (ap (λ n. gathered test (take n es)) (add-one k) ∙ gathered_more test es k (Some e) (sym at) ∙ ap (λ b. gathered test (take k es) ++ (if b then snp_entry_of e.0 e.1 ∷ [] else [])) (sym fails) ∙ append-nil (gathered test (take k es)))

pub no_entry : (test : Entry → Bool) (es : List (LspId × Entry)) (k : ℕ) → None ≡ slice_get es k → (old new : List SnpEntry) → old ≡ gathered test (take k es) → new ≡ old → new ≡ gathered test (take (k + 1) es)
no_entry test es k at old new before is =
    is ∙ before ∙ sym (ap (λ n. gathered test (take n es)) (add-one k) ∙ gathered_more test es k None (sym at) ∙ append-nil (gathered test (take k es)))

-- all of them
pub all_entries : (test : Entry → Bool) (db : Lsps) (n : ℕ) → len db ≤ n → (listed : List SnpEntry) → listed ≡ gathered test (take n (entries db)) → listed ≡ snp_entries_where test db
all_entries test db n past listed is = is ∙ ap (gathered test) (take_all n (entries db) (subst (λ k. k ≤ n) (len-entries db) past))
