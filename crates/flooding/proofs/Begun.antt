-- A life that begins holds each own LSP above the number of the life before, and nothing else.
use Rattle.std.specs.Prelude.{◌≡◌, ◌≢◌, ℕ, zero, suc, ◌+◌, ◌≤◌, ◌<◌, List, [], ◌∷◌, length, Bool, true, false, ◌||◌, not, Option, Some, None, nat_lt, slice_get, if◌then◌else◌}
use Rattle.std.specs.Option.{option_and_then}
use Rattle.std.specs.List.{list_any, AllByRecursion}
use Rattle.std.proofs.Common.{refl, sym, ap, subst, ◌∙◌, arith}
use Rattle.std.specs.FinMap.{get}
use Rattle.spb_types.specs.declared.address.SystemId.{SystemId}
use Rattle.spb_types.specs.declared.address.LspId.{LspId}
use Rattle.lsdb.specs.Entry.{Entry}
use Rattle.lsdb.specs.Database.{Lsps, changed_to}
use Rattle.lsdb.proofs.LookupLemmas.{get-insert_same, get-insert_other}
use Rattle.flooding.specs.declared.own.Own.{Own}
use Rattle.flooding.specs.Own.{last_number, own_number, body_of_number}
use Rattle.flooding.specs.Hearing.{Holding}
use Rattle.flooding.specs.Origination.{next_own}
use Rattle.flooding.specs.Starting.{started_as, started, started_all, is_last, StartingIsAlone}
use Rattle.flooding.proofs.Owns.{SameOwn}
use Rattle.flooding.proofs.OwnNumbers.{other_than, other_number}
use Rattle.flooding.proofs.Settled.{same_then}

put_other : (db : Lsps) (id x : LspId) (new : Option Entry) → x ≢ id → get (changed_to db id new) x ≡ get db x
put_other db id x None apart = refl
put_other db id x (Some e) apart = get-insert_other db id e x apart

put_new : (db : Lsps) (id : LspId) (new : Option Entry) → get db id ≡ None → get (changed_to db id new) id ≡ new
put_new db id None none = none
put_new db id (Some e) none = get-insert_same db id e

-- ---- the system

own_same : (own : Own) (b : Bool) → SameOwn own (if b then own else record own { spent = true })
own_same own true = (refl, refl)
own_same own false = (refl, refl)

pub starting_leaves_own : (number n : ℕ) (h : Holding) → SameOwn h.own (started number n h).own
starting_leaves_own number n h = own_same h.own (nat_lt n last_number)

-- what each start keeps that leaves the system and its bodies
pub starting_keeps : (P : Holding → Type 0) (Q : ℕ → Type 0) (ns : List ℕ) (k m : ℕ) (own : Own) (h : Holding) → k + length ns ≤ m → AllByRecursion Q ns
    → ((number n : ℕ) (g : Holding) → number < m → Q n → SameOwn own g.own → P g → P (started number n g)) → SameOwn own h.own → P h → P (started_all ns k h)
starting_keeps P Q [] k m own h few all step same p = p
starting_keeps P Q (n ∷ ns) k m own h few all step same p =
    starting_keeps P Q ns (k + 1) m own (started k n h) (omega (arith, few)) all.1 step (same_then own h.own (started k n h).own same (starting_leaves_own k n h))
    (step k n h (omega (arith, few)) all.0 same p)

pub all_own : (ns : List ℕ) (k : ℕ) (h : Holding) → SameOwn h.own (started_all ns k h).own
all_own [] k h = (refl, refl)
all_own (n ∷ ns) k h = same_then h.own (started k n h).own (started_all ns (k + 1) (started k n h)).own (starting_leaves_own k n h) (all_own ns (k + 1) (started k n h))

or_assoc : (a b c : Bool) → ((a || b) || c) ≡ (a || (b || c))
or_assoc true b c = refl
or_assoc false b c = refl

or_none : (a : Bool) → a ≡ (a || false)
or_none true = refl
or_none false = refl

or_last : (a : Bool) → true ≡ (a || true)
or_last true = refl
or_last false = refl

spent_by : (own : Own) (n : ℕ) (b : Bool) → nat_lt n last_number ≡ b → (if b then own else record own { spent = true }).spent ≡ (own.spent || is_last n)
spent_by own n true is = or_none own.spent ∙ ap (λ b. own.spent || not b) (sym is)
spent_by own n false is = or_last own.spent ∙ ap (λ b. own.spent || not b) (sym is)

started_spent : (own : Own) (n : ℕ) → (next_own own n).spent ≡ (own.spent || is_last n)
started_spent own n = spent_by own n (nat_lt n last_number) refl

pub all_spent : (ns : List ℕ) (k : ℕ) (h : Holding) → (started_all ns k h).own.spent ≡ (h.own.spent || list_any is_last ns)
all_spent [] k h = or_none h.own.spent
all_spent (n ∷ ns) k h =
    all_spent ns (k + 1) (started k n h) ∙ (ap (λ b. b || list_any is_last ns) (started_spent h.own n) ∙ or_assoc h.own.spent (is_last n) (list_any is_last ns))

-- ---- what is held

-- an id that is none of these numbers keeps what it has
all_others : (s : SystemId) (ns : List ℕ) (k : ℕ) (h : Holding) (x : LspId) → h.own.system ≡ s → ((i : ℕ) → k ≤ i → i < k + length ns → x ≢ own_number s i)
    → get (started_all ns k h).db x ≡ get h.db x
all_others s [] k h x is apart = refl
all_others s (n ∷ ns) k h x is apart =
    all_others s ns (k + 1) (started k n h) x ((starting_leaves_own k n h).0 ∙ is) (λ i low high. apart i (omega (arith, low)) (omega (arith, high)))
    ∙ put_other h.db (own_number h.own.system k) x (started_as (own_number h.own.system k) n (body_of_number h.own k))
    (λ same. apart k (omega arith) (omega arith) (same ∙ ap (λ (t : SystemId). own_number t k) is))

all_starts : (s : SystemId) (ns : List ℕ) (k m j n : ℕ) (h : Holding) → h.own.system ≡ s → m ≡ k + j → slice_get ns j ≡ Some n → get h.db (own_number s m) ≡ None
    → get (started_all ns k h).db (own_number s m) ≡ started_as (own_number s m) n (body_of_number h.own m)
all_starts s [] k m j n h is at here none = absurd cc
all_starts s (x ∷ ns) k m zero n h is at here none =
    let first : x ≡ n = cc in
    let same : m ≡ k = omega (arith, at) in
    all_others s ns (k + 1) (started k x h) (own_number s m) ((starting_leaves_own k x h).0 ∙ is)
    (λ i low high. other_number s m i (λ e. absurd (omega (arith, low, same, e))))
    ∙ subst (λ (t : SystemId). get (started k x h).db (own_number t m) ≡ started_as (own_number t m) n (body_of_number h.own m)) is
    (subst (λ (i : ℕ). get (started k x h).db (own_number h.own.system i) ≡ started_as (own_number h.own.system i) n (body_of_number h.own i)) (sym same)
    (put_new h.db (own_number h.own.system k) (started_as (own_number h.own.system k) x (body_of_number h.own k))
    (subst (λ (i : ℕ). get h.db (own_number h.own.system i) ≡ None) same (subst (λ (t : SystemId). get h.db (own_number t m) ≡ None) (sym is) none))
    ∙ ap (λ (y : ℕ). started_as (own_number h.own.system k) y (body_of_number h.own k)) first))
all_starts s (x ∷ ns) k m (suc j) n h is at here none =
    let apart : own_number s m ≢ own_number h.own.system k = λ e. let other : m ≡ k = ap (λ (y : LspId). y.number) e in absurd (omega (arith, at, other)) in
    all_starts s ns (k + 1) m j n (started k x h) ((starting_leaves_own k x h).0 ∙ is) (omega (arith, at)) here
    (put_other h.db (own_number h.own.system k) (own_number s m) (started_as (own_number h.own.system k) x (body_of_number h.own k)) apart ∙ none)
    ∙ ap (λ (bs : List (Option (List ℕ))). started_as (own_number s m) n (option_and_then (λ body. body) (slice_get bs m))) (starting_leaves_own k x h).1

pub starting_is_alone : StartingIsAlone
starting_is_alone last h long none = record {
  starts = λ number n at. all_starts h.own.system last 0 number number n h refl (omega arith) at (none (own_number h.own.system number));
  alone = λ id other.
      all_others h.own.system last 0 h id refl (λ i low high. other_than h.own.system id i (omega (arith, high, long)) other) ∙ none id;
  spent = all_spent last 0 h;
  system = (all_own last 0 h).0;
  bodies = (all_own last 0 h).1;
}
