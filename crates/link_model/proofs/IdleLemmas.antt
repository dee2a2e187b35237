-- Links whose lanes are empty.
use Rattle.std.proofs.Common.{◌≡◌, ℕ, zero, suc, ◌+◌, ◌<◌, ◌≤◌, ◌⊎◌, inl, inr, Result, Ok, Err, OnOk, OnErr, List, [], ◌∷◌, length, drop, Bool, true, false, Option, Some, None, slice_get, refl, sym, ap, ◌∙◌, subst, arith}
use Rattle.std.specs.Prelude.{is_some, is_none, not, nat_lt, if◌then◌else◌}
use Rattle.std.proofs.lemmas.Bool.{ltb-false}
use Rattle.std.specs.Option.{option_and_then}
use Rattle.std.proofs.lemmas.Option.{none-some}
use Rattle.spb_types.specs.Places.{changed_at}
use Rattle.spb_types.proofs.Places.{get-none}
use Rattle.link_model.specs.declared.lanes.LaneId.{LaneId}
use Rattle.link_model.specs.declared.lanes.LinkLanes.{LinkLanes}
use Rattle.link_model.specs.Lane.{Frame}
use Rattle.link_model.specs.Lanes.{rest, changed_lane, changed_frames, full_in, full_at, first_full_from, AreIdle}
use Rattle.spb_types.specs.declared.link.Dir.{Dir}
use Rattle.spb_types.specs.declared.link.Dir.TheVariants.{Ab, Ba}
use Rattle.link_model.proofs.LaneLemmas.{full-found, full-passed}

-- what stands elsewhere stays
get-other : (f : LinkLanes → LinkLanes) (all : List LinkLanes) (k n : ℕ) → n < k → slice_get (changed_at f all k) n ≡ slice_get all n
get-other f [] k n less = refl
get-other f (x ∷ xs) zero n less = absurd (omega (arith, less))
get-other f (x ∷ xs) (suc k) zero less = refl
get-other f (x ∷ xs) (suc k) (suc n) less = get-other f xs k n (omega (arith, less))

-- the links before one that changes stay idle
pub idle-before : (f : LinkLanes → LinkLanes) (all : List LinkLanes) (n k m : ℕ) → m ≤ n → m ≤ k → AreIdle n all → AreIdle m (changed_at f all k)
idle-before f all n k m low before idle = λ i less.
    ap (option_and_then (full_in i)) (get-other f all k i (omega (arith, less, before))) ∙ idle i (omega (arith, less, low))

-- and all of fewer links
pub idle-fewer : (all : List LinkLanes) (n m : ℕ) → m ≤ n → AreIdle n all → AreIdle m all
idle-fewer all n m low idle = λ i less. idle i (omega (arith, less, low))

pub idle-as : (f : LinkLanes → LinkLanes) (all new : List LinkLanes) (n k m : ℕ) → m ≤ n → m ≤ k → new ≡ changed_at f all k → AreIdle n all → AreIdle m new
idle-as f all new n k m low before is idle = subst (AreIdle m) (sym is) (idle-before f all n k m low before idle)

-- so it is whatever a call answered that may leave all as it was
pub idle-either : {T E : Type 0} (r : Result T E) (f : LinkLanes → LinkLanes) (all new : List LinkLanes) (n k m : ℕ) → m ≤ n → m ≤ k → OnOk r (new ≡ changed_at f all k) → OnErr r (new ≡ all) → AreIdle n all → AreIdle m new
idle-either (Ok x) f all new n k m low before is kept idle = idle-as f all new n k m low before is idle
idle-either (Err e) f all new n k m low before is kept idle = subst (AreIdle m) (sym kept) (idle-fewer all n m low idle)

-- where both lanes are empty, they stay so when one is popped
none-then : {A : Type 0} (n : ℕ) (b : Bool) (x : A) (o : Option A) → nat_lt 0 n ≡ b → (if b then Some x else o) ≡ None → n ≡ 0
none-then n true x o e k = absurd (none-some x (sym k))
none-then n false x o e k = omega (arith, ltb-false 0 n e)

ab-empty : (l : ℕ) (ab ba : List Frame) → full_in l (record { ab = ab; ba = ba }) ≡ None → length ab ≡ 0
ab-empty l ab ba h = none-then (length ab) (nat_lt 0 (length ab)) _ _ refl h

ba-empty : (l : ℕ) (ba : List Frame) → full_in l (record { ab = []; ba = ba }) ≡ None → length ba ≡ 0
ba-empty l ba h = none-then (length ba) (nat_lt 0 (length ba)) _ _ refl h

popped-empty : (l : ℕ) (dir : Dir) (ab ba : List Frame) → full_in l (record { ab = ab; ba = ba }) ≡ None → full_in l (changed_lane dir rest (record { ab = ab; ba = ba })) ≡ None
popped-empty l dir (x ∷ xs) ba h = absurd (omega (arith, ab-empty l (x ∷ xs) ba h))
popped-empty l dir [] (x ∷ xs) h = absurd (omega (arith, ba-empty l (x ∷ xs) h))
popped-empty l Ab [] [] h = refl
popped-empty l Ba [] [] h = refl

popped-at : (dir : Dir) (all : List LinkLanes) (k i l : ℕ) → option_and_then (full_in l) (slice_get all i) ≡ None → option_and_then (full_in l) (slice_get (changed_frames rest all k dir) i) ≡ None
popped-at dir [] k i l h = h
popped-at dir (x ∷ xs) zero zero l h = popped-empty l dir x.ab x.ba h
popped-at dir (x ∷ xs) zero (suc i) l h = h
popped-at dir (x ∷ xs) (suc k) zero l h = h
popped-at dir (x ∷ xs) (suc k) (suc i) l h = popped-at dir xs k i l h

-- so idle links stay idle
pub idle-popped : (dir : Dir) (all new : List LinkLanes) (n k : ℕ) → new ≡ changed_frames rest all k dir → AreIdle n all → AreIdle n new
idle-popped dir all new n k is idle = subst (AreIdle n) (sym is) (λ i less. popped-at dir all k i i (idle i less))

-- idle links are passed over
idle-skip : (all : List LinkLanes) (n : ℕ) → n ≤ length all → AreIdle n all → first_full_from 0 all ≡ first_full_from n (drop n all)
idle-skip all zero within idle = refl
idle-skip all (suc n) within idle =
    let one : n + 1 ≡ suc n = omega arith in
    idle-skip all n (omega (arith, within)) (idle-fewer all (suc n) n (omega arith) idle)
    ∙ (full-passed all n (omega (arith, within)) (sym (idle n (omega arith))) ∙ ap (λ m. first_full_from m (drop m all)) one)

drop-past : (all : List LinkLanes) (n : ℕ) → length all ≤ n → first_full_from n (drop n all) ≡ None
drop-past [] zero past = refl
drop-past [] (suc n) past = refl
drop-past (x ∷ xs) zero past = absurd (omega (arith, past))
drop-past (x ∷ xs) (suc n) past = from (suc n) xs n (omega (arith, past))
  where
    from : (k : ℕ) (ls : List LinkLanes) (m : ℕ) → length ls ≤ m → first_full_from k (drop m ls) ≡ None
    from k [] zero past = refl
    from k [] (suc m) past = refl
    from k (y ∷ ys) zero past = absurd (omega (arith, past))
    from k (y ∷ ys) (suc m) past = from k ys m (omega (arith, past))

idle-all : (all : List LinkLanes) (n : ℕ) → length all ≤ n → AreIdle n all → first_full_from 0 all ≡ None
idle-all all n past idle =
    idle-skip all (length all) (omega arith) (idle-fewer all n (length all) past idle) ∙ drop-past all (length all) (omega arith)

within-or-past : (all : List LinkLanes) (n : ℕ) → (n < length all) ⊎ (length all ≤ n)
within-or-past [] n = inr (omega arith)
within-or-past (x ∷ xs) zero = inl (omega arith)
within-or-past (x ∷ xs) (suc n) = elim (within-or-past xs n) [
  | inl less ↦ inl (omega (arith, less))
  | inr past ↦ inr (omega (arith, past))
]

-- behind idle links, the first lane that isn't empty is that of the next link, or there is none
pub full-behind : (all : List LinkLanes) (n : ℕ) → AreIdle n all → (full_at all n ≡ None → length all ≤ n) → full_at all n ≡ first_full_from 0 all
full-behind all n idle end = by (full_at all n) refl
  where
    by : (o : Option LaneId) → full_at all n ≡ o → full_at all n ≡ first_full_from 0 all
    by None none = none ∙ sym (idle-all all n (end none) idle)
    by (Some id) there = elim (within-or-past all n) [
      | inl less ↦ there ∙ sym (idle-skip all n (omega (arith, less)) idle ∙ full-found all n id less (sym there))
      | inr past ↦ absurd (none-some id (sym (ap (option_and_then (full_in n)) (get-none all n past)) ∙ there))
    ]

-- what was looked at before and what is looked at now
pub idle-further : (all : List LinkLanes) (n m : ℕ) → AreIdle n all → ((k : ℕ) → n ≤ k → k < m → full_at all k ≡ None) → AreIdle m all
idle-further all n m idle more = λ i less. elim (below i n) [
  | inl low ↦ idle i low
  | inr high ↦ more i high less
]
  where
    below : (a b : ℕ) → (a < b) ⊎ (b ≤ a)
    below zero zero = inr (omega arith)
    below zero (suc b) = inl (omega arith)
    below (suc a) zero = inr (omega arith)
    below (suc a) (suc b) = elim (below a b) [
      | inl low ↦ inl (omega (arith, low))
      | inr high ↦ inr (omega (arith, high))
    ]

-- whether there is none
pub none-tells : {X : Type 0} (o p : Option X) (t : Bool) → o ≡ p → is_some o ≡ not t → t ≡ is_none p
none-tells None p true same said = ap is_none same
none-tells None p false same said = absurd cc
none-tells (Some x) p true same said = absurd cc
none-tells (Some x) p false same said = ap is_none same

-- where a lane behind idle links isn't empty, it is the first
pub full-here : (all : List LinkLanes) (n : ℕ) (o : Option LaneId) → AreIdle n all → o ≡ full_at all n → is_some o ≡ true → o ≡ first_full_from 0 all
full-here all n o idle is some = is ∙ full-behind all n idle (λ none. absurd (some-none o some (is ∙ none)))
  where
    some-none : (p : Option LaneId) → is_some p ≡ true → p ≡ None → ⊥
    some-none None e k = absurd cc
    some-none (Some x) e k = absurd (none-some x (sym k))
