-- The lane of an id among all lanes.
use Rattle.std.proofs.Common.{MutBor, Result, Ok, Err, OnErr, MatchOption, ◌≡◌, ℕ, zero, suc, ◌+◌, ◌<◌, ◌≤◌, List, [], ◌∷◌, length, drop, Option, Some, None, slice_get, refl, sym, ap, ◌∙◌, arith}
use Rattle.std.specs.Option.{option_map, option_map_or, option_and_then, option_or}
use Rattle.spb_types.specs.declared.link.Dir.{Dir}
use Rattle.spb_types.specs.declared.link.Dir.TheVariants.{Ab, Ba}
use Rattle.spb_types.proofs.Places.{get-none}
use Rattle.link_model.specs.declared.lanes.LaneId.{LaneId}
use Rattle.link_model.specs.declared.lanes.LinkLanes.{LinkLanes}
use Rattle.link_model.specs.Lane.{Frame, after_double}
use Rattle.link_model.specs.Lanes.{lane_in, with_lane, lane_of, changed_frames, rest, full_in, full_at, first_full_from}

some-is : {X : Type 0} (x y : X) → Some x ≡ Some y → x ≡ y
some-is x y h = cc

-- what holds whatever a call answered
pub on_err : {T E : Type 0} {P : Type 0} (r : Result T E) → P → OnErr r P
on_err (Ok x) p = tt
on_err (Err e) p = p

lane-itself : (dir : Dir) (lanes : LinkLanes) → with_lane dir (lane_in dir lanes) lanes ≡ lanes
lane-itself Ab lanes = refl
lane-itself Ba lanes = refl

-- the lane that is lent, or none
pub lent-lane : (all : List LinkLanes) (k : ℕ) (dir : Dir) (r : Option (MutBor (List Frame))) (lane : MutBor (List Frame)) → option_map (λ l. l.now) r ≡ option_map (lane_in dir) (slice_get all k) → r ≡ Some lane → Some lane.now ≡ option_map (lane_in dir) (slice_get all k)
lent-lane all k dir r lane there is = sym (ap (option_map (λ l. l.now)) is) ∙ there

pub lent-none : (all : List LinkLanes) (k : ℕ) (dir : Dir) (r : Option (MutBor (List Frame))) → option_map (λ l. l.now) r ≡ option_map (lane_in dir) (slice_get all k) → r ≡ None → None ≡ option_map (lane_in dir) (slice_get all k)
lent-none all k dir r there is = sym (ap (option_map (λ l. l.now)) is) ∙ there

-- what is made of the frames that stand there
pub frames-set : (f : List Frame → List Frame) (all : List LinkLanes) (k : ℕ) (dir : Dir) (old new : List Frame) → Some old ≡ option_map (lane_in dir) (slice_get all k) → new ≡ f old → changed_frames (λ _. new) all k dir ≡ changed_frames f all k dir
frames-set f [] k dir old new there is = cc
frames-set f (x ∷ xs) zero dir old new there is = ap (λ frames. with_lane dir frames x ∷ xs) (is ∙ ap f (some-is old (lane_in dir x) there))
frames-set f (x ∷ xs) (suc k) dir old new there is = ap (λ more. x ∷ more) (frames-set f xs k dir old new there is)

-- nothing, where they stay as they are
pub frames-kept : (all : List LinkLanes) (k : ℕ) (dir : Dir) (old new : List Frame) → Some old ≡ option_map (lane_in dir) (slice_get all k) → new ≡ old → changed_frames (λ _. new) all k dir ≡ all
frames-kept [] k dir old new there is = cc
frames-kept (x ∷ xs) zero dir old new there is = ap (λ frames. with_lane dir frames x ∷ xs) (is ∙ some-is old (lane_in dir x) there) ∙ ap (λ lanes. lanes ∷ xs) (lane-itself dir x)
frames-kept (x ∷ xs) (suc k) dir old new there is = ap (λ more. x ∷ more) (frames-kept xs k dir old new there is)

-- and nothing where there is no such lane
pub frames-none : (f : List Frame → List Frame) (all : List LinkLanes) (k : ℕ) (dir : Dir) → None ≡ option_map (lane_in dir) (slice_get all k) → all ≡ changed_frames f all k dir
frames-none f [] k dir none = refl
frames-none f (x ∷ xs) zero dir none = cc
frames-none f (x ∷ xs) (suc k) dir none = ap (λ more. x ∷ more) (frames-none f xs k dir none)

-- the frames of the lane that was found
pub lane-found : (all : List LinkLanes) (k : ℕ) (dir : Dir) (o : Option (List Frame)) → o ≡ option_map (lane_in dir) (slice_get all k) → option_map_or (λ frames. frames) o [] ≡ lane_of all k dir
lane-found all k dir o is = ap (λ r. option_map_or (λ frames. frames) r []) is ∙ found (slice_get all k) where
  found : (r : Option LinkLanes) → option_map_or (λ frames. frames) (option_map (lane_in dir) r) [] ≡ option_map_or (lane_in dir) r []
  found None = refl
  found (Some x) = refl

-- the frames behind the front, as `pop` leaves them
pub rest-of : {V : Type 0} (bytes : V → Frame) (old new : List Frame) (o : Option V) → MatchOption o ((old ≡ []) × (new ≡ [])) (λ v. old ≡ bytes v ∷ new) → new ≡ rest old
rest-of bytes old new None h = h.1 ∙ sym (ap rest h.0)
rest-of bytes old new (Some v) h = sym (ap rest h)

-- where no frame stands at a place, there is none to be doubled
pub doubled-none : (frames : List Frame) (k : ℕ) → length frames ≤ k → frames ≡ after_double frames k (slice_get frames k)
doubled-none frames k past = sym (ap (after_double frames k) (get-none frames k past))

full-step : (k : ℕ) (all : List LinkLanes) (n : ℕ) → n < length all → first_full_from k (drop n all) ≡ option_or (option_and_then (full_in k) (slice_get all n)) (first_full_from (k + 1) (drop (suc n) all))
full-step k [] n h = absurd (omega arith)
full-step k (x ∷ xs) zero h = refl
full-step k (x ∷ xs) (suc n) h = full-step k xs n (omega arith)

suc-is : (k : ℕ) → suc k ≡ k + 1
suc-is k = omega arith

pub full-found : (all : List LinkLanes) (k : ℕ) (id : LaneId) → k < length all → Some id ≡ full_at all k → first_full_from k (drop k all) ≡ Some id
full-found all k id h e = full-step k all k h ∙ ap (λ o. option_or o (first_full_from (k + 1) (drop (suc k) all))) (sym e)

pub full-passed : (all : List LinkLanes) (k : ℕ) → k < length all → None ≡ full_at all k → first_full_from k (drop k all) ≡ first_full_from (k + 1) (drop (k + 1) all)
full-passed all k h e = full-step k all k h ∙ ap (λ o. option_or o (first_full_from (k + 1) (drop (suc k) all))) (sym e) ∙ ap (λ m. first_full_from (k + 1) (drop m all)) (suc-is k)
