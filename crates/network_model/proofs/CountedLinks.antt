-- Links that are switched, and metrics that are told.
use Rattle.std.proofs.Common.{◌≡◌, ◌≢◌, inl, inr, ◌≤◌, ◌<◌, ◌+◌, ℕ, zero, suc, Bool, true, false, List, [], ◌∷◌, refl, sym, ap, ◌∙◌, subst, Option, Some, None, slice_get, arith}
use Rattle.std.specs.Prelude.{◌==◌, if◌then◌else◌}
use Rattle.std.proofs.lemmas.Bool.{cases_eq, ne_eqb}
use Rattle.spb_types.specs.declared.link.Dir.{Dir}
use Rattle.spb_types.specs.declared.link.Dir.TheVariants.{Ab, Ba}
use Rattle.spb_types.specs.declared.link.Side.{Side}
use Rattle.spb_types.specs.declared.link.Side.TheVariants as side
use Rattle.spb_types.specs.Places.{changed_at}
use Rattle.link_model.specs.declared.lanes.LinkLanes.{LinkLanes}
use Rattle.link_model.specs.Lane.{Frame}
use Rattle.link_model.specs.Lanes.{no_frames, lane_in, lane_of}
use Rattle.flooding.specs.Own.{last_number}
use Rattle.bridge_api.specs.View.{BridgeView}
use Rattle.bridge_api.specs.Config.{IsMetric}
use Rattle.bridge_api.specs.Step.{Input, frame, carrier, metric, sent}
use Rattle.bridge_laws.specs.Counting.{is_claiming, gain_of}
use Rattle.spb_world.specs.declared.declaration.DeclaredLink.{DeclaredLink}
use Rattle.spb_world.specs.declared.declaration.LinkEnd.{LinkEnd}
use Rattle.spb_world.specs.World.{World, Bridges, Links, things_of}
use Rattle.spb_world.specs.Declaring.{end_on, switched, with_live, link_with_metric, links_with_metric, with_end_metric}
use Rattle.network_model.specs.State.{State, links_of}
use Rattle.spb_world.specs.Links.{far_end}
use Rattle.network_model.specs.Events.{stepped, with_carrier_at_end, with_carrier_over, with_metric_at_end, with_metric_on, with_metric_changed, flushed, switched_off, switched_on}
use Rattle.network_model.specs.Sound.{IsSoundState}
use Rattle.network_model.specs.Counted.{hellos_in, hellos_along, hellos_to, IsOwnOf, IsCountedBy}
use Rattle.network_model.proofs.FitsLemmas.{alike_itself, link_there}
use Rattle.network_model.proofs.SoundMoves.{IsCore, link-apart}
use Rattle.network_model.proofs.SoundSteps.{IsInputAt, core_stepped, core_with_live, in_flushed, flushed_lane}
use Rattle.network_model.proofs.SoundEvents.{core_of, Sound-flushed}
use Rattle.network_model.proofs.SoundLinks.{end_metric}
use Rattle.network_model.proofs.SoundSetMetrics.{core_with_end_metric}
use Rattle.spb_world.proofs.WorldLemmas.{end_on-is}
use Rattle.network_model.proofs.CountedSteps.{AreOwn, AreWeak, own_from, weak_from, counted_from}
use Rattle.network_model.proofs.CountedSent.{AreNoHellos}
use Rattle.network_model.proofs.CountedGains.{gain_at}
use Rattle.network_model.proofs.CountedEvents.{counted_fewer, step_weak}

-- a network whose bridges' numbers don't pass what is allowed to each
pub record IsTracked (n : ℕ → ℕ) (s : State) : Type 0 where
  pub core : IsCore s
  pub own : AreOwn s
  pub weak : AreWeak n s

pub tracked_from : (n : ℕ) (s : State) → IsCore s → IsCountedBy n s → IsTracked (λ i. n) s
tracked_from n s core counted = record { core = core; own = own_from n s counted; weak = weak_from n s counted }

pub tracked_more : (n m : ℕ → ℕ) (s : State) → ((i : ℕ) → n i ≤ m i) → IsTracked n s → IsTracked m s
tracked_more n m s more tracked = record {
  core = tracked.core;
  own = tracked.own;
  weak = λ i v id at own.
      let within = tracked.weak i v id at own in
      record { most = within.most; weak = within.weak; room = omega (arith, within.room, more i) };
}

pub counted_tracked : (n : ℕ → ℕ) (c : ℕ) (s : State) → IsTracked n s → ((i : ℕ) → n i + 1 ≤ c) → IsCountedBy c s
counted_tracked n c s tracked low = counted_from n c s tracked.own tracked.weak (λ i v at. low i)

-- ---- one bridge steps

pub tracked_stepped : (x : Input) (s : State) (n : ℕ → ℕ) (i : ℕ) → IsInputAt s.views i x → IsTracked n s → ((j : ℕ) → n j < last_number) → is_claiming x ≡ false → ((v : BridgeView) → slice_get s.views i ≡ Some v → AreNoHellos (sent x v)) → ((p : ℕ) (f : Frame) → x ≡ frame p f → ⊥) → IsTracked (λ j. n j + gain_at i x j) (stepped x s i)
tracked_stepped x s n i is_input tracked low quiet silent no_frame =
    let next = step_weak x s n i is_input tracked.core tracked.own tracked.weak (λ j v at. low j) quiet silent no_frame in
    tracked_more (λ j. n j + gain_at i x j + 0) (λ j. n j + gain_at i x j) (stepped x s i) (λ j. omega arith) (record {
      core = core_stepped x s s.lanes i is_input tracked.core (alike_itself s) tracked.core.short (λ k dir f among. among) (λ p f is. absurd (no_frame p f is));
      own = next.0;
      weak = next.1;
    })

pub tracked_carrier : (on : Bool) (s : State) (n : ℕ → ℕ) (e : LinkEnd) → IsTracked n s → ((j : ℕ) → n j < last_number) → IsTracked (λ j. n j + gain_at e.bridge (carrier e.port on) j) (with_carrier_at_end on s e)
tracked_carrier on s n e tracked low = tracked_stepped (carrier e.port on) s n e.bridge (λ v at. tt) tracked low refl (λ v at. tt) (λ p f is. absurd cc)

pub tracked_metric : (s : State) (n : ℕ → ℕ) (e : LinkEnd) → IsMetric e.metric → IsTracked n s → ((j : ℕ) → n j < last_number) → IsTracked (λ j. n j + gain_at e.bridge (metric e.port e.metric) j) (with_metric_at_end s e)
tracked_metric s n e is tracked low = tracked_stepped (metric e.port e.metric) s n e.bridge (λ v at. is) tracked low refl (λ v at. tt) (λ p f is. absurd cc)

-- what the gains are
if_small : (b : Bool) (m : ℕ) → m ≤ 1 → (if b then m else 0) ≤ 1
if_small true m low = low
if_small false m low = omega arith

pub gain_one : (i j : ℕ) (x : Input) → gain_of x ≤ 1 → gain_at i x j ≤ 1
gain_one i j x low = if_small (j == i) (gain_of x) low

if_zero : (b : Bool) → (if b then 0 else 0) ≤ 0
if_zero true = omega arith
if_zero false = omega arith

pub no_gain : (i j p : ℕ) → gain_at i (carrier p true) j ≤ 0
no_gain i j p = if_zero (j == i)

-- at two bridges that aren't one
pub gains_apart : (i k j : ℕ) (x y : Input) → i ≢ k → gain_of x ≤ 1 → gain_of y ≤ 1 → gain_at i x j + gain_at k y j ≤ 1
gains_apart i k j x y apart low_x low_y =
    elim (cases_eq j i) [
      | inl here ↦
          let other : gain_at k y j ≡ 0 = ap (λ (b : Bool). if b then gain_of y else 0) (ne_eqb j k (λ e. apart (sym here ∙ e))) in
          omega (arith, other, gain_one i j x low_x)
      | inr beside ↦
          let none : gain_at i x j ≡ 0 = ap (λ (b : Bool). if b then gain_of x else 0) (ne_eqb j i beside) in
          omega (arith, none, gain_one k j y low_y)
    ]

-- ---- other links between the same bridges

-- the hellos are those to the same bridges, whatever else is changed of a link
along_same : (dir : Dir) (l m : DeclaredLink) (x : LinkLanes) (i : ℕ) → (far_end dir l).bridge ≡ (far_end dir m).bridge → hellos_along dir l x i ≡ hellos_along dir m x i
along_same dir l m x i same = ap (λ (j : ℕ). if j == i then hellos_in (lane_in dir x) else 0) same

over_same : (l m : DeclaredLink) (ls ms : List DeclaredLink) (x : LinkLanes) (xs : List LinkLanes) (i : ℕ) → l.a.bridge ≡ m.a.bridge → l.b.bridge ≡ m.b.bridge → hellos_to ls xs i ≡ hellos_to ms xs i → hellos_to (l ∷ ls) (x ∷ xs) i ≡ hellos_to (m ∷ ms) (x ∷ xs) i
over_same l m ls ms x xs i a b more =
    let ab = along_same Ab l m x i b in
    let ba = along_same Ba l m x i a in
    omega (arith, ab, ba, more)

hellos-switched : (on : Bool) (ls : Links) (k : ℕ) (xs : List LinkLanes) (i : ℕ) → hellos_to (things_of (switched on ls k)) xs i ≡ hellos_to (things_of ls) xs i
hellos-switched on [] k xs i = refl
hellos-switched on (l ∷ ls) zero [] i = refl
hellos-switched on (l ∷ ls) zero (x ∷ xs) i = over_same (record l.1 { live = on }) l.1 (things_of ls) (things_of ls) x xs i refl refl refl
hellos-switched on (l ∷ ls) (suc k) [] i = refl
hellos-switched on (l ∷ ls) (suc k) (x ∷ xs) i = over_same l.1 l.1 (things_of (switched on ls k)) (things_of ls) x xs i refl refl (hellos-switched on ls k xs i)

hellos-metric : (on : Side) (m : ℕ) (ls : Links) (k : ℕ) (xs : List LinkLanes) (i : ℕ) → hellos_to (things_of (links_with_metric on m ls k)) xs i ≡ hellos_to (things_of ls) xs i
hellos-metric on m [] k xs i = refl
hellos-metric on m (l ∷ ls) zero [] i = refl
hellos-metric side.A m (l ∷ ls) zero (x ∷ xs) i = over_same (link_with_metric side.A m l.1) l.1 (things_of ls) (things_of ls) x xs i refl refl refl
hellos-metric side.B m (l ∷ ls) zero (x ∷ xs) i = over_same (link_with_metric side.B m l.1) l.1 (things_of ls) (things_of ls) x xs i refl refl refl
hellos-metric on m (l ∷ ls) (suc k) [] i = refl
hellos-metric on m (l ∷ ls) (suc k) (x ∷ xs) i = over_same l.1 l.1 (things_of (links_with_metric on m ls k)) (things_of ls) x xs i refl refl (hellos-metric on m ls k xs i)

-- so nothing is changed of what is counted
pub same_counted : (n : ℕ → ℕ) (s : State) (w : World) → IsCore (record s { world = w }) → w.bridges ≡ s.world.bridges → ((i : ℕ) → hellos_to (things_of w.links) s.lanes i ≡ hellos_to (links_of s) s.lanes i) → IsTracked n s → IsTracked n (record s { world = w })
same_counted n s w core bridges hellos tracked = record {
  core = core;
  own = record {
    fresh = tracked.own.fresh;
    held = λ i v id e at held. subst (λ (bs : Bridges). IsOwnOf bs id) (sym bridges) (tracked.own.held i v id e at held);
    said = λ k dir f id a among claimed. subst (λ (bs : Bridges). IsOwnOf bs id) (sym bridges) (tracked.own.said k dir f id a among claimed);
    origins = tracked.own.origins;
  };
  weak = λ i v id at own.
      let within = tracked.weak i v id at own in
      record { most = within.most; weak = within.weak; room = omega (arith, within.room, hellos i) };
}

pub tracked_live : (on : Bool) (n : ℕ → ℕ) (s : State) (k : ℕ) → (on ≡ false → (dir : Dir) → lane_of s.lanes k dir ≡ []) → IsTracked n s → IsTracked n (record s { world = with_live on s.world k })
unfolding with_live
tracked_live on n s k empty tracked = same_counted n s (record s.world { links = switched on s.world.links k }) (core_with_live on s k tracked.core empty) refl (hellos-switched on s.world.links k s.lanes) tracked

pub tracked_end_metric : (on : Side) (m : ℕ) (n : ℕ → ℕ) (s : State) (k : ℕ) → IsMetric m → IsTracked n s → IsTracked n (record s { world = with_end_metric on m s.world k })
unfolding with_end_metric
tracked_end_metric on m n s k is tracked = same_counted n s (record s.world { links = links_with_metric on m s.world.links k }) (core_with_end_metric on m s k is tracked.core) refl (hellos-metric on m s.world.links k s.lanes) tracked

-- ---- a metric

low_next : (n r : ℕ → ℕ) (c : ℕ) → ((j : ℕ) → n j + c < last_number) → ((j : ℕ) → r j ≤ c) → (j : ℕ) → n j + r j < last_number
low_next n r c low few j = let below = low j in let small = few j in omega (arith, below, small)

counted_metric_on : (s : State) (n : ℕ) (k : ℕ) (on : Side) (o : Option DeclaredLink) → slice_get (links_of s) k ≡ o → IsTracked (λ i. n) s → n < last_number → IsCountedBy (n + 2) (with_metric_on on s o)
counted_metric_on s n k on None at tracked low = counted_tracked (λ i. n) (n + 2) s tracked (λ i. omega arith)
counted_metric_on s n k on (Some l) at tracked low =
    let e : LinkEnd = end_on on l in
    let is : IsMetric e.metric = end_metric s.world.bridges e (end_on-is on s.world.bridges l (link_there s k l tracked.core.world at)) in
    counted_tracked (λ j. n + gain_at e.bridge (metric e.port e.metric) j) (n + 2) (with_metric_at_end s e) (tracked_metric s (λ i. n) e is tracked (λ j. low)) (λ j.
    let small = gain_one e.bridge j (metric e.port e.metric) (omega arith) in omega (arith, small))

pub Counted-metric : (s : State) (n k : ℕ) (on : Side) (m : ℕ) → IsMetric m → IsCore s → IsCountedBy n s → n < last_number → IsCountedBy (n + 2) (with_metric_changed s k on m)
unfolding with_metric_changed
Counted-metric s n k on m is core counted low =
    let t : State = record s { world = with_end_metric on m s.world k } in
    counted_metric_on t n k on (slice_get (links_of t) k) refl (tracked_end_metric on m (λ i. n) s k is (tracked_from n s core counted)) low

-- ---- a link is switched

both_ends : (on : Bool) (s : State) (n : ℕ → ℕ) (c : ℕ) (l : DeclaredLink) → IsTracked n s → ((j : ℕ) → n j + c < last_number) → ((j : ℕ) → gain_at l.a.bridge (carrier l.a.port on) j + gain_at l.b.bridge (carrier l.b.port on) j ≤ c) → IsTracked (λ j. n j + c) (with_carrier_at_end on (with_carrier_at_end on s l.a) l.b)
both_ends on s n c l tracked low few =
    let first : IsTracked (λ j. n j + gain_at l.a.bridge (carrier l.a.port on) j) (with_carrier_at_end on s l.a) = tracked_carrier on s n l.a tracked (λ j. let below = low j in omega (arith, below)) in
    let second : IsTracked (λ j. n j + gain_at l.a.bridge (carrier l.a.port on) j + gain_at l.b.bridge (carrier l.b.port on) j) (with_carrier_at_end on (with_carrier_at_end on s l.a) l.b) =
    tracked_carrier on (with_carrier_at_end on s l.a) (λ j. n j + gain_at l.a.bridge (carrier l.a.port on) j) l.b first (λ j. let below = low j in let small = few j in omega (arith, below, small)) in
    tracked_more (λ j. n j + gain_at l.a.bridge (carrier l.a.port on) j + gain_at l.b.bridge (carrier l.b.port on) j) (λ j. n j + c) (with_carrier_at_end on (with_carrier_at_end on s l.a) l.b) (λ j. let small = few j in omega (arith, small)) second

over_ends : (on : Bool) (s : State) (n : ℕ → ℕ) (c : ℕ) (o : Option DeclaredLink) → IsTracked n s → ((j : ℕ) → n j + c < last_number) → ((l : DeclaredLink) → o ≡ Some l → (j : ℕ) → gain_at l.a.bridge (carrier l.a.port on) j + gain_at l.b.bridge (carrier l.b.port on) j ≤ c) → IsTracked (λ j. n j + c) (with_carrier_over on s o)
over_ends on s n c None tracked low few = tracked_more n (λ j. n j + c) s (λ j. omega arith) tracked
over_ends on s n c (Some l) tracked low few = both_ends on s n c l tracked low (few l refl)

-- carrier that comes takes nothing further
pub tracked_on : (s : State) (n : ℕ → ℕ) (k : ℕ) → IsTracked n s → ((j : ℕ) → n j < last_number) → IsTracked (λ j. n j + 0) (switched_on s k)
unfolding switched_on
tracked_on s n k tracked low =
    over_ends true (record s { world = with_live true s.world k }) n 0 (slice_get (links_of s) k) (tracked_live true n s k (λ is dir. absurd cc) tracked) (λ j. let below = low j in omega (arith, below)) (λ l is j.
    let a = no_gain l.a.bridge j l.a.port in let b = no_gain l.b.bridge j l.b.port in omega (arith, a, b))

pub Counted-on : (s : State) (n k : ℕ) → IsCore s → IsCountedBy n s → n < last_number → IsCountedBy (n + 1) (switched_on s k)
Counted-on s n k core counted low = counted_tracked (λ j. n + 0) (n + 1) (switched_on s k) (tracked_on s (λ j. n) k (tracked_from n s core counted) (λ j. low)) (λ j. omega arith)

pub hellos-flushed : (links : List DeclaredLink) (xs : List LinkLanes) (k i : ℕ) → hellos_to links (changed_at (λ x. no_frames) xs k) i ≤ hellos_to links xs i + 0
hellos-flushed [] xs k i = omega arith
hellos-flushed (l ∷ links) [] k i = omega arith
hellos-flushed (l ∷ links) (x ∷ xs) zero i = let ab = if_zero (l.b.bridge == i) in let ba = if_zero (l.a.bridge == i) in omega (arith, ab, ba)
hellos-flushed (l ∷ links) (x ∷ xs) (suc k) i = let more = hellos-flushed links xs k i in omega (arith, more)

pub Counted-off : (s : State) (n k : ℕ) → IsSoundState s → IsCountedBy n s → n + 1 < last_number → IsCountedBy (n + 2) (switched_off s k)
unfolding switched_off
Counted-off s n k sound counted low =
    let t : State = flushed s k in
    let emptied : IsCountedBy (n + 0) t = counted_fewer s n 0 (changed_at (λ x. no_frames) s.lanes k) counted (in_flushed s.lanes k) (hellos-flushed (links_of s) s.lanes k) in
    let tracked : IsTracked (λ j. n + 0) t = tracked_from (n + 0) t (core_of t (Sound-flushed s k sound)) emptied in
    let tracked_down : IsTracked (λ j. n + 0) (record t { world = with_live false t.world k }) = tracked_live false (λ j. n + 0) t k (λ is dir. flushed_lane s.lanes k dir) tracked in
    counted_tracked (λ j. n + 0 + 1) (n + 2) (with_carrier_over false (record t { world = with_live false t.world k }) (slice_get (links_of s) k))
    (over_ends false (record t { world = with_live false t.world k }) (λ j. n + 0) 1 (slice_get (links_of s) k) tracked_down (λ j. omega (arith, low)) (λ l is j.
    gains_apart l.a.bridge l.b.bridge j (carrier l.a.port false) (carrier l.b.port false) (link-apart s k l (core_of s sound) is) (omega arith) (omega arith)))
    (λ j. omega arith)
