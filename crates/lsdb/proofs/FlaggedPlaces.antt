-- The places at which flags stand.
use Rattle.std.specs.Prelude.{◌≡◌, ℕ, zero, suc, ◌+◌, ◌<◌, ◌≤◌, Bool, true, false, ◌||◌, cond, List, [], ◌∷◌, ◌++◌, map, length, take, drop}
use Rattle.std.proofs.Common.{refl, sym, ap, subst, ◌∙◌, arith, get_or, add-one}
use Rattle.std.specs.List.{list_any}
use Rattle.std.specs.FinMap.{entries, from_sorted}
use Rattle.std.proofs.lemmas.List.{take-map, drop-map, length-map, take_all}
use Rattle.spb_types.specs.declared.address.LspId.{LspId}
use Rattle.lsdb.specs.declared.held.Held.{Held}
use Rattle.lsdb.specs.Entry.{Entry, entry_of, has_flags}
use Rattle.lsdb.specs.Database.{Lsps, keyed, flagged_from, flagged_places, AreFlagsAt}
use Rattle.lsdb.specs.Place.{AreSorted}
use Rattle.lsdb.proofs.Maps.{entries_map}

-- ---- they are found one after another

noted_at : (b : Bool) (n m : ℕ) (xs ys : List ℕ) → xs ≡ ys ++ (cond b (m ∷ []) []) → (c : Bool) → cond c (n ∷ xs) xs ≡ cond c (n ∷ ys) ys ++ cond b (m ∷ []) []
noted_at b n m xs ys is true = ap (λ (zs : List ℕ). n ∷ zs) is
noted_at b n m xs ys is false = is

first_noted : (b : Bool) (n m : ℕ) → m ≡ n → cond b (n ∷ []) [] ≡ cond b (m ∷ []) []
first_noted b n m is = ap (λ (k : ℕ). cond b (k ∷ []) []) (sym is)

noted : (hs : List Held) (k n m : ℕ) (d : Held) → k < length hs → m ≡ n + k
    → flagged_from n (map keyed (take (suc k) hs)) ≡ flagged_from n (map keyed (take k hs)) ++ cond (has_flags (entry_of (get_or hs k d))) (m ∷ []) []
noted [] k n m d within is = absurd (omega arith)
noted (h ∷ hs) zero n m d within is = first_noted (has_flags (entry_of h)) n m (omega (arith, is))
noted (h ∷ hs) (suc k) n m d within is =
    noted_at (has_flags (entry_of (get_or hs k d))) n m (flagged_from (suc n) (map keyed (take (suc k) hs))) (flagged_from (suc n) (map keyed (take k hs)))
    (noted hs k (suc n) m d (omega (arith, within)) (omega (arith, is))) (has_flags (entry_of h))

pub noted_next : (hs : List Held) (k : ℕ) (h : Held) (flagged : Bool) (was now : List ℕ) → k < length hs → h ≡ get_or hs k h → flagged ≡ has_flags (entry_of h) → was ≡ flagged_from 0 (map keyed (take k hs))
    → now ≡ was ++ cond flagged (k ∷ []) [] → now ≡ flagged_from 0 (map keyed (take (k + 1) hs))
noted_next hs k h flagged was now within here is_flagged before after =
    after
    ∙ ((λ i. before i ++ cond ((is_flagged ∙ ap (λ (g : Held). has_flags (entry_of g)) here) i) (k ∷ []) [])
    ∙ (sym (noted hs k 0 k h within (omega arith)) ∙ ap (λ (n : ℕ). flagged_from 0 (map keyed (take n hs))) (sym (add-one k))))

pub noted_all : (hs : List Held) (k : ℕ) (places : List ℕ) → length hs ≤ k → places ≡ flagged_from 0 (map keyed (take k hs)) → places ≡ flagged_from 0 (map keyed hs)
noted_all hs k places past is = is ∙ ap (λ (gs : List Held). flagged_from 0 (map keyed gs)) (take_all k hs past)

pub flagged_map : (hs : List Held) → AreSorted hs → flagged_from 0 (map keyed hs) ≡ flagged_places (from_sorted (map keyed hs))
flagged_map hs s = ap (flagged_from 0) (sym (entries_map hs s))

-- ---- nowhere else do flags stand

abbrev pub AreIdle : List (LspId × Entry) → Type 0
AreIdle es = list_any (λ (e : LspId × Entry). has_flags e.1) es ≡ false

or_false : (a b : Bool) → a ≡ false → b ≡ false → (a || b) ≡ false
or_false a b e f = ap (λ c. c || b) e ∙ f

idle_more : (e : LspId × Entry) (es : List (LspId × Entry)) → has_flags e.1 ≡ false → AreIdle es → AreIdle (e ∷ es)
idle_more e es none rest = or_false (has_flags e.1) (list_any (λ (d : LspId × Entry). has_flags d.1) es) none rest

none_taken : (n : ℕ) (es : List (LspId × Entry)) → AreIdle (drop n (take n es))
none_taken zero [] = refl
none_taken (suc n) [] = refl
none_taken zero (e ∷ es) = refl
none_taken (suc n) (e ∷ es) = none_taken n es

-- what stands behind the first of those from a place on
behind_first : (n : ℕ) (all : List (LspId × Entry)) (e : LspId × Entry) (es : List (LspId × Entry)) → (e ∷ es) ≡ drop n all → es ≡ drop (suc n) all
behind_first zero [] e es is = absurd cc
behind_first (suc n) [] e es is = absurd cc
behind_first zero (x ∷ all) e es is = cc
behind_first (suc n) (x ∷ all) e es is = behind_first n all e es is

within_all : (n : ℕ) (all : List (LspId × Entry)) (e : LspId × Entry) (es : List (LspId × Entry)) → (e ∷ es) ≡ drop n all → n < length all
within_all zero [] e es is = absurd cc
within_all (suc n) [] e es is = absurd cc
within_all zero (x ∷ all) e es is = omega arith
within_all (suc n) (x ∷ all) e es is = omega (arith, within_all n all e es is)

-- a gap that begins one entry before
gap_before : (n p : ℕ) (all : List (LspId × Entry)) (e : LspId × Entry) (es : List (LspId × Entry)) → (e ∷ es) ≡ drop n all → n < p → has_flags e.1 ≡ false → AreIdle (drop (suc n) (take p all)) → AreIdle (drop n (take p all))
gap_before zero p [] e es is below none gap = absurd cc
gap_before (suc n) p [] e es is below none gap = absurd cc
gap_before n zero (x ∷ all) e es is below none gap = absurd (omega arith)
gap_before zero (suc p) (x ∷ all) e es is below none gap =
    let here : e ≡ x = cc in
    idle_more x (take p all) (subst (λ (y : LspId × Entry). has_flags y.1 ≡ false) here none) gap
gap_before (suc n) (suc p) (x ∷ all) e es is below none gap = gap_before n p all e es is (omega (arith, below)) none gap

flags_before : (n : ℕ) (ps : List ℕ) (all : List (LspId × Entry)) (e : LspId × Entry) (es : List (LspId × Entry)) → (e ∷ es) ≡ drop n all → has_flags e.1 ≡ false → AreFlagsAt (suc n) ps all → AreFlagsAt n ps all
flags_before n [] all e es is none rest =
    subst AreIdle is (idle_more e es none (subst AreIdle (sym (behind_first n all e es is)) rest))
flags_before n (p ∷ ps) all e es is none rest =
    (omega (arith, rest.0), rest.1, gap_before n p all e es is (omega (arith, rest.0)) none rest.2, rest.3)

flags_from : (n : ℕ) (es all : List (LspId × Entry)) → es ≡ drop n all → AreFlagsAt n (flagged_from n es) all
flags_from n [] all is = ap (list_any (λ (e : LspId × Entry). has_flags e.1)) (sym is)
flags_from n (e ∷ es) all is = by_test (has_flags e.1) refl (flags_from (suc n) es all (behind_first n all e es is))
  where
    by_test : (b : Bool) → has_flags e.1 ≡ b → AreFlagsAt (suc n) (flagged_from (suc n) es) all → AreFlagsAt n (cond b (n ∷ flagged_from (suc n) es) (flagged_from (suc n) es)) all
    by_test true t rest = (omega arith, within_all n all e es is, none_taken n all, rest)
    by_test false t rest = flags_before n (flagged_from (suc n) es) all e es is t rest

pub flags_at_places : (db : Lsps) → AreFlagsAt 0 (flagged_places db) (entries db)
flags_at_places db = flags_from 0 (entries db) (entries db) refl

-- ---- entries may lose their flags

idle_mapped : (f : LspId × Entry → LspId × Entry) → ((e : LspId × Entry) → has_flags e.1 ≡ false → has_flags (f e).1 ≡ false) → (es : List (LspId × Entry)) → AreIdle es → AreIdle (map f es)
idle_mapped f fewer [] none = refl
idle_mapped f fewer (e ∷ es) none = idle_more (f e) (map f es) (fewer e (first none)) (idle_mapped f fewer es (rest none))
  where
    parts : (a b : Bool) → (a || b) ≡ false → (a ≡ false) × (b ≡ false)
    parts true b e = cc
    parts false b e = (refl, e)

    first : AreIdle (e ∷ es) → has_flags e.1 ≡ false
    first h = (parts (has_flags e.1) (list_any (λ (d : LspId × Entry). has_flags d.1) es) h).0

    rest : AreIdle (e ∷ es) → AreIdle es
    rest h = (parts (has_flags e.1) (list_any (λ (d : LspId × Entry). has_flags d.1) es) h).1

pub flags_mapped_at : (f : LspId × Entry → LspId × Entry) → ((e : LspId × Entry) → has_flags e.1 ≡ false → has_flags (f e).1 ≡ false) → (n : ℕ) (ps : List ℕ) (es : List (LspId × Entry)) → AreFlagsAt n ps es → AreFlagsAt n ps (map f es)
flags_mapped_at f fewer n [] es none = ap (list_any (λ (e : LspId × Entry). has_flags e.1)) (drop-map f n es) ∙ idle_mapped f fewer (drop n es) none
flags_mapped_at f fewer n (p ∷ ps) es h = (
  h.0,
  omega (arith, h.1, length-map es f),
  ap (list_any (λ (e : LspId × Entry). has_flags e.1)) (ap (drop n) (take-map f p es) ∙ drop-map f n (take p es)) ∙ idle_mapped f fewer (drop n (take p es)) h.2,
  flags_mapped_at f fewer (suc p) ps es h.3,
)
