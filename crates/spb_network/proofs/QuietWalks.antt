-- A walk over a list that ends at the first item that fails a test, and the walk over lanes.
use Rattle.std.proofs.Common.{◌≡◌, ℕ, zero, suc, ◌+◌, ◌<◌, ◌≤◌, Bool, true, false, not, ◌&&◌, List, [], ◌∷◌, length, drop, Option, Some, None, is_none, is_some, slice_get, nat_lt, ◌==◌, if◌then◌else◌, refl, sym, ap, ◌∙◌, arith}
use Rattle.std.specs.List.{list_all}
use Rattle.std.specs.Option.{option_map_or, option_or}
use Rattle.std.proofs.lemmas.Bool.Decides.{nat_tests}
use Rattle.spb_types.specs.declared.link.Dir.TheVariants.{Ab, Ba}
use Rattle.link_model.specs.declared.lanes.LinkLanes.{LinkLanes}
use Rattle.link_model.specs.declared.lanes.LaneId.{LaneId}
use Rattle.link_model.specs.Lanes.{full_in, first_full_from}
use Rattle.network_model.specs.Quiet.{is_idle}

all-step : {X : Type 0} (p : X → Bool) (xs : List X) (n : ℕ) → n < length xs → list_all p (drop n xs) ≡ (option_map_or p (slice_get xs n) true && list_all p (drop (suc n) xs))
all-step p [] n h = absurd (omega arith)
all-step p (x ∷ xs) zero h = refl
all-step p (x ∷ xs) (suc n) h = all-step p xs n (omega arith)

suc-is : (k : ℕ) → suc k ≡ k + 1
suc-is k = omega arith

pub all-found : {X : Type 0} (p : X → Bool) (xs : List X) (k : ℕ) → k < length xs → false ≡ option_map_or p (slice_get xs k) true → list_all p (drop k xs) ≡ false
all-found p xs k h e = all-step p xs k h ∙ ap (λ b. b && list_all p (drop (suc k) xs)) (sym e)

pub all-passed : {X : Type 0} (p : X → Bool) (xs : List X) (k : ℕ) → k < length xs → true ≡ option_map_or p (slice_get xs k) true → list_all p (drop k xs) ≡ list_all p (drop (k + 1) xs)
all-passed p xs k h e = all-step p xs k h ∙ (ap (λ b. b && list_all p (drop (suc k) xs)) (sym e) ∙ ap (λ m. list_all p (drop m xs)) (suc-is k))

pub all-past : {X : Type 0} (p : X → Bool) (xs : List X) (k : ℕ) → length xs ≤ k → list_all p (drop k xs) ≡ true
all-past p [] zero h = refl
all-past p [] (suc k) h = refl
all-past p (x ∷ xs) zero h = absurd (omega arith)
all-past p (x ∷ xs) (suc k) h = all-past p xs k (omega arith)

-- the lanes of one link, and those of all
some_frame : (n : ℕ) → nat_lt 0 n ≡ not (n == 0)
some_frame zero = refl
some_frame (suc n) = grind (arith, nat_tests)

chosen : (a b : Bool) (x y : LaneId) → is_none (if not a then Some x else (if not b then Some y else None)) ≡ (a && b)
chosen true true x y = refl
chosen true false x y = refl
chosen false b x y = refl

idle_of : (k : ℕ) (x : LinkLanes) → is_none (full_in k x) ≡ is_idle x
idle_of k x =
    let ab : LaneId = record { link = k; dir = Ab } in
    let ba : LaneId = record { link = k; dir = Ba } in
    (λ i. is_none (if some_frame (length x.ab) i then Some ab else (if some_frame (length x.ba) i then Some ba else None)))
    ∙ chosen (length x.ab == 0) (length x.ba == 0) ab ba

or-none : (o p : Option LaneId) → is_none (option_or o p) ≡ (is_none o && is_none p)
or-none None p = refl
or-none (Some x) p = refl

pub none_full : (k : ℕ) (lanes : List LinkLanes) → is_none (first_full_from k lanes) ≡ list_all is_idle lanes
none_full k [] = refl
none_full k (x ∷ xs) = or-none (full_in k x) (first_full_from (k + 1) xs) ∙ (λ i. idle_of k x i && none_full (k + 1) xs i)

pub turned : {o : Option LaneId} (p : Option LaneId) (r : Bool) → is_some p ≡ not r → p ≡ o → r ≡ is_none o
turned p r e f = by r p e ∙ ap is_none f
  where
    by : (r : Bool) (p : Option LaneId) → is_some p ≡ not r → r ≡ is_none p
    by true None e = refl
    by true (Some x) e = cc
    by false None e = cc
    by false (Some x) e = refl
