-- Places but at which no flags stand: nothing is gathered elsewhere, and nothing changes there.
use Rattle.std.specs.Prelude.{◌≡◌, ℕ, zero, suc, ◌+◌, ◌<◌, ◌≤◌, Bool, true, false, ◌||◌, cond, T, List, [], ◌∷◌, ◌++◌, map, filter, length, take, drop, slice_get, Option, Some, None, if◌then◌else◌}
use Rattle.std.proofs.Common.{refl, sym, ap, subst, ◌∙◌, arith, add-one, get_or}
use Rattle.std.proofs.Math.ListN.{drop_of_length-le}
use Rattle.std.specs.List.{list_any}
use Rattle.std.specs.FinMap.{is_sorted, entries, entries_sorted, from_sorted, len, len-entries, entries-from_sorted, same_entries_map}
use Rattle.spb_types.specs.declared.address.LspId.{LspId}
use Rattle.spb_tlvs.specs.declared.entries.SnpEntry.{SnpEntry}
use Rattle.lsdb.specs.Entry.{Entry, has_ports, has_flags, with_ssn}
use Rattle.lsdb.specs.Database.{Lsps, id_cmp, each, changed_at_place, AreFlagsAt}
use Rattle.lsdb.proofs.Flags.{none_in}
use Rattle.snp_sync.specs.SnpEntries.{snp_entry_of, snp_entries_where, has_ssn_at, entry_where}
use Rattle.snp_sync.specs.Sending.{ssn_cleared, ssn_cleared_under, ssn_cleared_at}
use Rattle.snp_sync.proofs.Gathered.{gathered, gathered_more}
use Rattle.snp_sync.proofs.Places.{changed_pair, ChangedTo, changed_none, changed_from, changed_more, changed_kept, changed_some}

or_parts : (a b : Bool) → (a || b) ≡ false → (a ≡ false) × (b ≡ false)
or_parts true b e = cc
or_parts false b e = (refl, e)

-- no flags stand in these
abbrev AreIdle : List (LspId × Entry) → Type 0
AreIdle es = list_any (λ (e : LspId × Entry). has_flags e.1) es ≡ false

idle_first : (e : LspId × Entry) (es : List (LspId × Entry)) → AreIdle (e ∷ es) → (has_flags e.1 ≡ false) × AreIdle es
idle_first e es none = or_parts (has_flags e.1) (list_any (λ (d : LspId × Entry). has_flags d.1) es) none

-- an entry without flags has no SSN
idle_entry : (p : ℕ) (e : Entry) → has_flags e ≡ false → has_ssn_at p e ≡ false
idle_entry p e none = none_in e.ssn (or_parts (has_ports e.srm) (has_ports e.ssn) none).1 p

idle_kept : (p : ℕ) (e : Entry) → has_flags e ≡ false → ssn_cleared p e ≡ e
idle_kept p e none = ap (λ b. if b then with_ssn p false e else e) (idle_entry p e none)

-- ---- what is gathered

none_gathered : (p : ℕ) (es : List (LspId × Entry)) → AreIdle es → gathered (has_ssn_at p) es ≡ []
none_gathered p [] none = refl
none_gathered p (e ∷ es) none =
    let parts = idle_first e es none in
    ap (λ b. map (λ (d : LspId × Entry). snp_entry_of d.0 d.1) (cond b (e ∷ filter (λ (d : LspId × Entry). has_ssn_at p d.1) es) (filter (λ (d : LspId × Entry). has_ssn_at p d.1) es))) (idle_entry p e.1 parts.0)
    ∙ none_gathered p es parts.1

gathered_to : (p : ℕ) (es : List (LspId × Entry)) (n : ℕ) → AreIdle (drop n es) → gathered (has_ssn_at p) (take n es) ≡ gathered (has_ssn_at p) es
gathered_to p [] zero none = refl
gathered_to p [] (suc n) none = refl
gathered_to p (e ∷ es) zero none = sym (none_gathered p (e ∷ es) none)
gathered_to p (e ∷ es) (suc n) none = by_test (has_ssn_at p e.1) refl (gathered_to p es n none)
  where
    by_test : (b : Bool) → has_ssn_at p e.1 ≡ b → gathered (has_ssn_at p) (take n es) ≡ gathered (has_ssn_at p) es → gathered (has_ssn_at p) (e ∷ take n es) ≡ gathered (has_ssn_at p) (e ∷ es)
    by_test true t rest = rw t (ap (λ (ls : List SnpEntry). snp_entry_of e.0 e.1 ∷ ls) rest)
    by_test false t rest = rw t rest

-- between two places
gathered_past : (p n q : ℕ) (es : List (LspId × Entry)) → n ≤ q → AreIdle (drop n (take q es)) → gathered (has_ssn_at p) (take n es) ≡ gathered (has_ssn_at p) (take q es)
gathered_past p zero zero [] le none = refl
gathered_past p zero (suc q) [] le none = refl
gathered_past p (suc n) zero [] le none = refl
gathered_past p (suc n) (suc q) [] le none = refl
gathered_past p zero zero (e ∷ es) le none = refl
gathered_past p zero (suc q) (e ∷ es) le none = sym (none_gathered p (e ∷ take q es) none)
gathered_past p (suc n) zero (e ∷ es) le none = absurd (omega (arith, le))
gathered_past p (suc n) (suc q) (e ∷ es) le none = by_test (has_ssn_at p e.1) refl (gathered_past p n q es (omega (arith, le)) none)
  where
    by_test : (b : Bool) → has_ssn_at p e.1 ≡ b → gathered (has_ssn_at p) (take n es) ≡ gathered (has_ssn_at p) (take q es) → gathered (has_ssn_at p) (e ∷ take n es) ≡ gathered (has_ssn_at p) (e ∷ take q es)
    by_test true t rest = rw t (ap (λ (ls : List SnpEntry). snp_entry_of e.0 e.1 ∷ ls) rest)
    by_test false t rest = rw t rest

-- what was gathered before these places
pub record Gathers (p : ℕ) (ps : List ℕ) (es : List (LspId × Entry)) (got : List SnpEntry) : Type 0 where
  pub place : ℕ
  pub flags : AreFlagsAt place ps es
  pub are : got ≡ gathered (has_ssn_at p) (take place es)

pub gathers_none : (p : ℕ) (ps : List ℕ) (es : List (LspId × Entry)) (got : List SnpEntry) → AreFlagsAt 0 ps es → got ≡ [] → Gathers p ps es got
gathers_none p ps es got flags none = record { place = 0; flags = flags; are = none }

-- up to the next place, and its entry
pub gathers_next : (p q : ℕ) (ps : List ℕ) (es : List (LspId × Entry)) (was got : List SnpEntry) → Gathers p (q ∷ ps) es was → got ≡ was ++ entry_where (has_ssn_at p) (slice_get es q) → Gathers p ps es got
gathers_next p q ps es was got h is = record {
  place = suc q;
  flags = h.flags.3;
  are = is ∙ (ap (λ (ls : List SnpEntry). ls ++ entry_where (has_ssn_at p) (slice_get es q)) (h.are ∙ gathered_past p h.place q es h.flags.0 h.flags.2)
      ∙ sym (gathered_more (has_ssn_at p) es q (slice_get es q) refl));
}

pub gathers_all : (p : ℕ) (db : Lsps) (got : List SnpEntry) → Gathers p [] (entries db) got → got ≡ snp_entries_where (has_ssn_at p) db
gathers_all p db got h = h.are ∙ gathered_to p (entries db) h.place h.flags

-- ---- what is cleared

none_changed : (p : ℕ) (es : List (LspId × Entry)) → AreIdle es → es ≡ map (changed_pair (λ id e. ssn_cleared p e)) es
none_changed p [] none = refl
none_changed p (e ∷ es) none =
    let parts = idle_first e es none in
    λ i. (e.0, sym (idle_kept p e.1 parts.0) i) ∷ none_changed p es parts.1 i

changed_before : (p : ℕ) (es : List (LspId × Entry)) (n : ℕ) → AreIdle (take n es) → es ≡ map (changed_pair (λ id e. ssn_cleared p e)) (take n es) ++ drop n es
changed_before p [] zero none = refl
changed_before p [] (suc n) none = refl
changed_before p (e ∷ es) zero none = refl
changed_before p (e ∷ es) (suc n) none =
    let parts = idle_first e (take n es) none in
    λ i. (e.0, sym (idle_kept p e.1 parts.0) i) ∷ changed_before p es n parts.1 i

changed_behind : (p : ℕ) (es : List (LspId × Entry)) (n : ℕ) → AreIdle (drop n es) → map (changed_pair (λ id e. ssn_cleared p e)) (take n es) ++ drop n es ≡ map (changed_pair (λ id e. ssn_cleared p e)) es
changed_behind p [] zero none = refl
changed_behind p [] (suc n) none = refl
changed_behind p (e ∷ es) zero none = none_changed p (e ∷ es) none
changed_behind p (e ∷ es) (suc n) none = ap (λ (ds : List (LspId × Entry)). changed_pair (λ id d. ssn_cleared p d) e ∷ ds) (changed_behind p es n none)

changed_past : (p n q : ℕ) (es : List (LspId × Entry)) → n ≤ q → AreIdle (drop n (take q es)) → map (changed_pair (λ id e. ssn_cleared p e)) (take n es) ++ drop n es ≡ map (changed_pair (λ id e. ssn_cleared p e)) (take q es) ++ drop q es
changed_past p zero zero [] le none = refl
changed_past p zero (suc q) [] le none = refl
changed_past p (suc n) zero [] le none = refl
changed_past p (suc n) (suc q) [] le none = refl
changed_past p zero zero (e ∷ es) le none = refl
changed_past p zero (suc q) (e ∷ es) le none = changed_before p (e ∷ es) (suc q) none
changed_past p (suc n) zero (e ∷ es) le none = absurd (omega (arith, le))
changed_past p (suc n) (suc q) (e ∷ es) le none = ap (λ (ds : List (LspId × Entry)). changed_pair (λ id d. ssn_cleared p d) e ∷ ds) (changed_past p n q es (omega (arith, le)) none)

-- what was cleared before these places
pub record Clears (p : ℕ) (ps : List ℕ) (old now : Lsps) : Type 0 where
  pub place : ℕ
  pub flags : AreFlagsAt place ps (entries old)
  pub changed : ChangedTo (λ id e. ssn_cleared p e) old place now

pub clears_none : (p : ℕ) (ps : List ℕ) (db : Lsps) → AreFlagsAt 0 ps (entries db) → Clears p ps db db
clears_none p ps db flags = record { place = 0; flags = flags; changed = changed_none (λ id e. ssn_cleared p e) db }

-- up to the next place, and there
cleared_here : (p q : ℕ) (old now : Lsps) → q < len old → ChangedTo (λ id e. ssn_cleared p e) old q now → (o : Option (LspId × Entry)) → o ≡ slice_get (entries now) q → ChangedTo (λ id e. ssn_cleared p e) old (q + 1) (ssn_cleared_under p q now o)
cleared_here p q old now within so_far None at = absurd (changed_some (λ id e. ssn_cleared p e) old now q so_far within at)
cleared_here p q old now within so_far (Some e) at = by_test (has_ssn_at p e.1) refl
  where
    by_test : (b : Bool) → has_ssn_at p e.1 ≡ b → ChangedTo (λ id d. ssn_cleared p d) old (q + 1) (if b then changed_at_place (with_ssn p false) now q else now)
    by_test true t = changed_more (λ id d. ssn_cleared p d) (with_ssn p false) old now _ q e so_far within at (ap (λ b. if b then with_ssn p false e.1 else e.1) t) refl
    by_test false t = changed_kept (λ id d. ssn_cleared p d) old now _ q e so_far within at (ap (λ b. if b then with_ssn p false e.1 else e.1) t) refl

pub clears_next : (p q : ℕ) (ps : List ℕ) (old was now : Lsps) → Clears p (q ∷ ps) old was → now ≡ ssn_cleared_at p q was → Clears p ps old now
clears_next p q ps old was now h is =
    let n = len-entries old in
    let within : q < len old = omega (arith, n, h.flags.1) in
    let so_far = changed_from (λ id e. ssn_cleared p e) old q was (h.changed.are ∙ changed_past p h.place q (entries old) h.flags.0 h.flags.2) in
    record {
      place = suc q;
      flags = h.flags.3;
      changed = subst (λ m. ChangedTo (λ id e. ssn_cleared p e) old m now) (add-one q)
          (subst (λ (db : Lsps). ChangedTo (λ id e. ssn_cleared p e) old (q + 1) db) (sym is) (cleared_here p q old was within so_far (slice_get (entries was) q) refl));
    }

pub clears_all : (p : ℕ) (old new : Lsps) → Clears p [] old new → new ≡ each (λ id e. ssn_cleared p e) old
unfolding each
clears_all p old new h =
    let xs = entries old in
    let all : entries new ≡ map (changed_pair (λ id e. ssn_cleared p e)) xs = h.changed.are ∙ changed_behind p xs h.place h.flags in
    same_entries_map new (from_sorted (map (changed_pair (λ id e. ssn_cleared p e)) xs)) (all ∙ sym (entries-from_sorted id_cmp (map (changed_pair (λ id e. ssn_cleared p e)) xs) (subst (λ es. T (is_sorted id_cmp es)) all (entries_sorted new))))

-- ---- the places that are left

drop_at : (ps : List ℕ) (k d : ℕ) → k < length ps → drop k ps ≡ get_or ps k d ∷ drop (suc k) ps
drop_at [] k d within = absurd (omega (arith, within))
drop_at (p ∷ ps) zero d within = refl
drop_at (p ∷ ps) (suc k) d within = drop_at ps k d (omega (arith, within))

pub next_place : (ps : List ℕ) (k : ℕ) (q d : ℕ) → k < length ps → q ≡ get_or ps k d → drop k ps ≡ q ∷ drop (k + 1) ps
next_place ps k q d within is = drop_at ps k d within ∙ (λ i. sym is i ∷ drop (sym (add-one k) i) ps)

pub no_place : (ps : List ℕ) (k : ℕ) → length ps ≤ k → drop k ps ≡ []
no_place ps k past = drop_of_length-le ps past
