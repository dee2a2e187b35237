-- Behind the last of the own numbers that stand side by side none is held.
use Rattle.std.specs.Prelude.{◌≡◌, ℕ, zero, suc, ◌+◌, ◌≤◌, ◌<◌, List, [], ◌∷◌, Bool, true, false, ◌&&◌, cond, Option, Some, None, slice_get, if◌then◌else◌}
use Rattle.std.proofs.Common.{refl, sym, ap, subst, ◌∙◌, arith, inl, inr}
use Rattle.std.proofs.lemmas.Bool.{true≢false, and_parts, cases_order}
use Rattle.std.proofs.lemmas.Cmp.{nat_cmp_total, nat_list_cmp_total}
use Rattle.std.proofs.lemmas.Option.{slice_get_within}
use Rattle.std.specs.declared.cmp.Ordering.{Ordering}
use Rattle.std.specs.declared.cmp.Ordering.TheVariants.{Less, Equal, Greater}
use Rattle.std.specs.Ordering.{nat_cmp, ordering_then, ordering_reverse, is_eq, is_lt}
use Rattle.std.specs.Cmp.Lexicographic.{slice_cmp}
use Rattle.std.specs.FinMap.{find, is_sorted, get, entries, entries_sorted, get-entries, len, len-entries, slice_cmp-IsAntisymmetric, nat_cmp-IsAntisymmetric}
use Rattle.std.specs.FinMap.Entries.{below_all}
use Rattle.spb_types.specs.declared.address.SystemId.{SystemId}
use Rattle.spb_types.specs.declared.address.LspId.{LspId}
use Rattle.spb_types.specs.declared.ports.PortSet.{PortSet}
use Rattle.lsdb.specs.Entry.{Entry}
use Rattle.lsdb.specs.Database.{Lsps, id_cmp, StandsAt}
use Rattle.lsdb.proofs.Ids.{ids_total, turned_less, turned_greater, less_is}
use Rattle.lsdb.proofs.IdNumbers.{cmp_equal, cmp_greater}
use Rattle.lsdb.proofs.LookupLemmas.{tied_is, below_at, true_from_T}
use Rattle.flooding.specs.Own.{own_numbers, own_number, is_own_number, body_of_number}
use Rattle.flooding.specs.Hearing.{Holding}
use Rattle.flooding.specs.Origination.{brought_up}
use Rattle.flooding.specs.Settling.{own_held, says, is_new, stands}
use Rattle.flooding.specs.HeldNumbers.{NoneAbove}
use Rattle.flooding.proofs.OwnNumbers.{its_own, number_is_own, other_number}
use Rattle.flooding.proofs.Brought.{bringing_leaves_own, bringing_leaves_others}
use Rattle.flooding.proofs.Room.{lower_first, numbered}

-- ---- between two own numbers no other id lies

record Tied (o q r : Ordering) : Type 0 where
  first : o ≡ Equal
  there : q ≡ Less
  back : r ≡ Less

-- what is less there and back ties first
tied : (o q r : Ordering) → ordering_then o q ≡ Less → ordering_then (ordering_reverse o) r ≡ Less → Tied o q r
tied Less q r there back = absurd (cc)
tied Equal q r there back = record { first = refl; there = there; back = back }
tied Greater q r there back = absurd (cc)

is_less : (m n : ℕ) → nat_cmp m n ≡ Less → m < n
is_less m n less =
    elim (cases_order m n) [
      | inl same ↦ let tie = cmp_equal m n same in absurd cc
      | inr (inl below) ↦ below
      | inr (inr above) ↦ let greater = cmp_greater m n above in absurd cc
    ]

between : (s : SystemId) (m j : ℕ) (x : LspId) → j < own_numbers → id_cmp (own_number s m) x ≡ Less → id_cmp x (own_number s j) ≡ Less → is_own_number s x ≡ true
between s m j x below there back =
    let systems = tied (slice_cmp nat_cmp s.mac.bytes x.system.mac.bytes) _ _ there
    (ap (λ o. ordering_then o (ordering_then (nat_cmp x.pseudonode 0) (nat_cmp x.number j))) (sym (nat_list_cmp_total.antisymm x.system.mac.bytes s.mac.bytes)) ∙ back) in
    let rest = tied (nat_cmp 0 x.pseudonode) _ _ systems.there
    (ap (λ o. ordering_then o (nat_cmp x.number j)) (sym (nat_cmp_total.antisymm x.pseudonode 0)) ∙ systems.back) in
    let bytes : s.mac.bytes ≡ x.system.mac.bytes = slice_cmp-IsAntisymmetric nat_cmp-IsAntisymmetric _ _ systems.first in
    let pseudonode : 0 ≡ x.pseudonode = nat_cmp-IsAntisymmetric _ _ rest.first in
    number_is_own s x (record {
      number = x.number;
      below = omega (arith, is_less x.number j rest.back, below);
      is = sym (λ i. record { system = record { mac = record { bytes = bytes i } }; pseudonode = pseudonode i; number = x.number });
    })

-- ---- in a list in order

below_lower : (x y : LspId) (es : List (LspId × Entry)) → id_cmp x y ≡ Less → below_all id_cmp y es ≡ true → below_all id_cmp x es ≡ true
below_lower x y [] less below = refl
below_lower x y (e ∷ es) less below =
    let parts = and_parts (is_lt (id_cmp y e.0)) (below_all id_cmp y es) below in
    λ i. is_lt (ids_total.trans x y e.0 less (less_is _ parts.0) i) && below_lower x y es less parts.1 i

-- what is below all isn't there
not_below : (x : LspId) (es : List (LspId × Entry)) → below_all id_cmp x es ≡ true → find id_cmp x es ≡ None
not_below x [] below = refl
not_below x (e ∷ es) below =
    let parts = and_parts (is_lt (id_cmp x e.0)) (below_all id_cmp x es) below in
    ap (λ o. cond (is_eq o) (Some e.1) (find id_cmp x es)) (less_is _ parts.0) ∙ not_below x es parts.1

-- the entry at a place, if there is one, isn't of an own number
abbrev pub IsOtherAt : SystemId → List (LspId × Entry) → ℕ → Type 0
IsOtherAt s es k = (e : LspId × Entry) → slice_get es k ≡ Some e → is_own_number s e.0 ≡ false

-- behind own number m, where the first entry isn't of an own number, no greater one is
not_behind : (s : SystemId) (m j : ℕ) (es : List (LspId × Entry)) → j < own_numbers → is_sorted id_cmp es ≡ true → below_all id_cmp (own_number s m) es ≡ true → IsOtherAt s es 0
    → find id_cmp (own_number s j) es ≡ None
not_behind s m j [] below sorted behind other = refl
not_behind s m j (e ∷ es) below sorted behind other = by (id_cmp (own_number s j) e.0) refl
  where
    by : (o : Ordering) → id_cmp (own_number s j) e.0 ≡ o → cond (is_eq o) (Some e.1) (find id_cmp (own_number s j) es) ≡ None
    by Less less = not_below (own_number s j) es (below_lower (own_number s j) e.0 es less (and_parts (below_all id_cmp e.0 es) (is_sorted id_cmp es) sorted).0)
    by Equal same = absurd (true≢false (sym (its_own s j below) ∙ (ap (is_own_number s) (tied_is (own_number s j) e.0 (ap is_eq same)) ∙ other e refl)))
    by Greater greater =
        absurd (true≢false (sym (between s m j e.0 below (less_is _ (and_parts (is_lt (id_cmp (own_number s m) e.0)) (below_all id_cmp (own_number s m) es) behind).0) (turned_greater (own_number s j) e.0 greater)) ∙ other e refl))

-- an id above the first is behind it
find_behind : (x : LspId) (e : LspId × Entry) (es : List (LspId × Entry)) → id_cmp e.0 x ≡ Less → find id_cmp x (e ∷ es) ≡ find id_cmp x es
find_behind x e es less = ap (λ o. cond (is_eq o) (Some e.1) (find id_cmp x es)) (turned_less e.0 x less)

not_found : (s : SystemId) (m j k : ℕ) (d : Entry) (es : List (LspId × Entry)) → m < j → j < own_numbers → is_sorted id_cmp es ≡ true → slice_get es k ≡ Some (own_number s m, d) → IsOtherAt s es (suc k)
    → find id_cmp (own_number s j) es ≡ None
not_found s m j k d [] above below sorted at other = absurd (cc)
not_found s m j zero d (e ∷ es) above below sorted at other =
    let parts = and_parts (below_all id_cmp e.0 es) (is_sorted id_cmp es) sorted in
    let here : e.0 ≡ own_number s m = cc in
    find_behind (own_number s j) e es (ap (λ (x : LspId). id_cmp x (own_number s j)) here ∙ lower_first s m j above)
    ∙ not_behind s m j es below parts.1 (subst (λ (x : LspId). below_all id_cmp x es ≡ true) here parts.0) other
not_found s m j (suc k) d (e ∷ es) above below sorted at other =
    let parts = and_parts (below_all id_cmp e.0 es) (is_sorted id_cmp es) sorted in
    find_behind (own_number s j) e es (ids_total.trans e.0 (own_number s m) (own_number s j) (below_at e.0 es k (own_number s m, d) parts.0 at) (lower_first s m j above))
    ∙ not_found s m j k d es above below parts.1 at other

-- ---- in a database

-- an own number stands right before a place
pub record StandsBefore (s : SystemId) (db : Lsps) (place number : ℕ) : Type 0 where
  pub before : ℕ
  pub is : place ≡ before + 1
  pub entry : Entry
  pub stands : slice_get (entries db) before ≡ Some (own_number s number, entry)

-- where the place has no own number, none above is held
pub none_above : (h : Holding) (place number : ℕ) → StandsBefore h.own.system h.db place number → IsOtherAt h.own.system (entries h.db) place → NoneAbove number h
none_above h place number b other j above below =
    let next : place ≡ suc b.before = omega (arith, b.is) in
    get-entries h.db (own_number h.own.system j)
    ∙ not_found h.own.system number j b.before b.entry (entries h.db) above below (true_from_T _ (entries_sorted h.db)) b.stands (subst (IsOtherAt h.own.system (entries h.db)) next other)

-- where an own number is held, it stands right before the next place
pub held_before : (s : SystemId) (db : Lsps) (number first : ℕ) (place : Option ℕ) → StandsAt db (own_number s number) place → place ≡ Some first → StandsBefore s db (first + 1) number
held_before s db number first place at is = let held = subst (StandsAt db (own_number s number)) is at in record { before = first; is = refl; entry = held.entry; stands = held.stands }

pub held_within : (s : SystemId) (db : Lsps) (place number : ℕ) → StandsBefore s db place number → place ≤ len db
held_within s db place number b = let within = slice_get_within (entries db) b.before (own_number s number, b.entry) b.stands in omega (arith, within, b.is, len-entries db)

-- and so does the next one that has an own number
pub next_before : (s : SystemId) (db : Lsps) (place : ℕ) (id : LspId) (e : Entry) → slice_get (entries db) place ≡ Some (id, e) → is_own_number s id ≡ true → StandsBefore s db (place + 1) id.number
next_before s db place id e at own = record { before = place; is = refl; entry = e; stands = at ∙ ap (λ (x : LspId). Some (x, e)) (numbered s id own).is }

-- no other number stands past the last place, or where another id does
pub other_past : (s : SystemId) (db : Lsps) (place : ℕ) → slice_get (entries db) place ≡ None → IsOtherAt s (entries db) place
other_past s db place none e at = absurd (cc)

pub other_there : (s : SystemId) (db : Lsps) (place : ℕ) (d : LspId × Entry) → slice_get (entries db) place ≡ Some d → is_own_number s d.0 ≡ false → IsOtherAt s (entries db) place
other_there s db place d there other e at = let same : d ≡ e = cc in subst (λ (x : LspId × Entry). is_own_number s x.0 ≡ false) same other

-- ---- while numbers are brought up

-- of the numbers from one on, none above this one is held
abbrev pub NoneAhead : ℕ → ℕ → Holding → Type 0
NoneAhead last k h = (number : ℕ) → last < number → k ≤ number → number < own_numbers → own_held h number ≡ None

pub none_next : (last k : ℕ) (h : Holding) → NoneAhead last k h → NoneAhead last (k + 1) h
none_next last k h none number above from below = none number above (omega (arith, from)) below

pub none_brought : (up : PortSet) (last k : ℕ) (h : Holding) → NoneAhead last k h → NoneAhead last (k + 1) (brought_up up k h)
none_brought up last k h none number above from below =
    ap (λ (s : SystemId). get (brought_up up k h).db (own_number s number)) (bringing_leaves_own up k h).0
    ∙ bringing_leaves_others up k h (own_number h.own.system number) (other_number h.own.system number k (λ e. absurd (omega (arith, from, e))))
    ∙ none number above (omega (arith, from)) below

-- a number without a body that isn't held stands
pub idle_stands : (by_age : Bool) (h : Holding) (number : ℕ) → body_of_number h.own number ≡ None → own_held h number ≡ None → stands (if by_age then is_new else says) h number ≡ true
idle_stands true h number body held = λ i. is_new (body i) (held i)
idle_stands false h number body held = λ i. says (body i) (held i)
