-- A database holds few own numbers of a system.
use Rattle.std.specs.Prelude.{◌≡◌, ℕ, suc, ◌+◌, ◌≤◌, ◌<◌, List, [], ◌∷◌, length, Bool, true, false, ◌&&◌, ◌==◌, not, cond, Some, slice_get, nat_lt}
use Rattle.std.proofs.Common.{refl, sym, ap, ◌∙◌, inl, inr, arith}
use Rattle.std.proofs.lemmas.Bool.{and_parts, eqb-true, ltb-true, cases_order}
use Rattle.std.specs.declared.cmp.Ordering.{Ordering}
use Rattle.std.specs.declared.cmp.Ordering.TheVariants.{Less, Equal, Greater}
use Rattle.std.specs.Ordering.{nat_cmp, ordering_then}
use Rattle.std.specs.Cmp.Lexicographic.{slice_cmp}
use Rattle.std.specs.FinMap.{entries, entries_sorted, is_sorted, len-entries}
use Rattle.std.specs.FinMap.Entries.{below_all}
use Rattle.std.proofs.lemmas.Slice.Eq.{bytes_eq-Decides}
use Rattle.spb_types.specs.declared.address.SystemId.{SystemId}
use Rattle.spb_types.specs.declared.address.LspId.{LspId}
use Rattle.spb_types.specs.Address.{same_system}
use Rattle.lsdb.specs.Entry.{Entry}
use Rattle.lsdb.specs.Database.{id_cmp}
use Rattle.lsdb.proofs.Ids.{tied_same, turned_less}
use Rattle.lsdb.proofs.IdNumbers.{cmp_less}
use Rattle.lsdb.proofs.LookupLemmas.{below_at, true_from_T}
use Rattle.flooding.specs.Own.{own_numbers, own_number, is_own_number}
use Rattle.flooding.specs.Room.{others_among}
use Rattle.flooding.specs.RoomLaws.{FewOwn}

-- ---- the order of own numbers

first_tie : (o r : Ordering) → ordering_then o r ≡ Equal → o ≡ Equal
first_tie Less r e = absurd (cc)
first_tie Equal r e = refl
first_tie Greater r e = absurd (cc)

same_bytes : (s : SystemId) → slice_cmp nat_cmp s.mac.bytes s.mac.bytes ≡ Equal
same_bytes s = first_tie (slice_cmp nat_cmp s.mac.bytes s.mac.bytes) _ (tied_same (own_number s 0) (own_number s 0) refl)

pub lower_first : (s : SystemId) (m n : ℕ) → m < n → id_cmp (own_number s m) (own_number s n) ≡ Less
lower_first s m n less = ap (λ o. ordering_then o (ordering_then (nat_cmp 0 0) (nat_cmp m n))) (same_bytes s) ∙ cmp_less m n less

rising : (s : SystemId) (m n : ℕ) → id_cmp (own_number s m) (own_number s n) ≡ Less → m < n
rising s m n less =
    elim (cases_order m n) [
      | inl same ↦
          let tied : id_cmp (own_number s m) (own_number s n) ≡ Equal = tied_same (own_number s m) (own_number s n) (ap (own_number s) same) in absurd cc
      | inr (inl below) ↦ below
      | inr (inr above) ↦
          let back : id_cmp (own_number s m) (own_number s n) ≡ Greater = turned_less (own_number s n) (own_number s m) (lower_first s n m above) in absurd cc
    ]

-- ---- which ids are own numbers

pub record Numbered (s : SystemId) (id : LspId) : Type 0 where
  pub below : id.number < own_numbers
  pub is : id ≡ own_number s id.number

pub numbered : (s : SystemId) (id : LspId) → is_own_number s id ≡ true → Numbered s id
numbered s id own =
    let parts = and_parts (same_system id.system s) ((id.pseudonode == 0) && nat_lt id.number own_numbers) own in
    let rest = and_parts (id.pseudonode == 0) (nat_lt id.number own_numbers) parts.1 in
    let bytes : id.system.mac.bytes ≡ s.mac.bytes = (bytes_eq-Decides id.system.mac.bytes s.mac.bytes).0 parts.0 in
    let pseudonode : id.pseudonode ≡ 0 = eqb-true id.pseudonode 0 rest.0 in
    record {
      below = ltb-true id.number own_numbers rest.1;
      is = λ i. record { system = record { mac = record { bytes = bytes i } }; pseudonode = pseudonode i; number = id.number };
    }

-- ---- a list in order

-- its own numbers are this one or greater
abbrev AreFrom : SystemId → ℕ → List (LspId × Entry) → Type 0
AreFrom s lo es = (k : ℕ) (e : LspId × Entry) → slice_get es k ≡ Some e → is_own_number s e.0 ≡ true → lo ≤ e.0.number

kept : (b : Bool) (e : LspId × Entry) (es : List (LspId × Entry)) → b ≡ true → length (cond b (e ∷ es) es) ≡ suc (length es)
kept true e es is = refl
kept false e es is = absurd (cc)

left : (b : Bool) (e : LspId × Entry) (es : List (LspId × Entry)) → b ≡ false → length (cond b (e ∷ es) es) ≡ length es
left true e es is = absurd (cc)
left false e es is = refl

few_from : (s : SystemId) (lo : ℕ) (es : List (LspId × Entry)) → lo ≤ own_numbers → is_sorted id_cmp es ≡ true → AreFrom s lo es
    → length es + lo ≤ length (others_among s es) + own_numbers
few_from s lo [] low sorted from = omega (arith, low)
few_from s lo (e ∷ es) low sorted from =
    let parts = and_parts (below_all id_cmp e.0 es) (is_sorted id_cmp es) sorted in by (is_own_number s e.0) refl parts.0 (λ m more later. few_from s m es more parts.1 later)
  where
    by : (b : Bool) → is_own_number s e.0 ≡ b → below_all id_cmp e.0 es ≡ true
        → ((m : ℕ) → m ≤ own_numbers → AreFrom s m es → length es + m ≤ length (others_among s es) + own_numbers) → length (e ∷ es) + lo ≤ length (others_among s (e ∷ es)) + own_numbers
    by true own below rest =
        let here = numbered s e.0 own in
        let first = from 0 e refl own in
        let later : AreFrom s (e.0.number + 1) es = λ k x at mine.
        let there = numbered s x.0 mine in
        let less = rising s e.0.number x.0.number (ap (λ (y : LspId). id_cmp y (own_number s x.0.number)) (sym here.is) ∙ (ap (λ (y : LspId). id_cmp e.0 y) (sym there.is) ∙ below_at e.0 es k x below at)) in
        omega (arith, less) in
        let more = rest (e.0.number + 1) (omega (arith, here.below)) later in
        let same = left (not (is_own_number s e.0)) e (others_among s es) (ap not own) in
        omega (arith, more, first, same)
    by false other below rest =
        let more = rest lo low (λ k x at mine. from (suc k) x at mine) in
        let same = kept (not (is_own_number s e.0)) e (others_among s es) (ap not other) in
        omega (arith, more, same)

pub few_among : (s : SystemId) (es : List (LspId × Entry)) → is_sorted id_cmp es ≡ true → length es ≤ length (others_among s es) + own_numbers
few_among s es sorted =
    let all = few_from s 0 es (omega arith) sorted (λ k e at own. omega arith) in
    omega (arith, all)

pub few_own : FewOwn
few_own system db =
    let all = few_among system (entries db) (true_from_T _ (entries_sorted db)) in
    omega (arith, all, len-entries db)
