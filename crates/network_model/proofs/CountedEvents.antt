-- Ticks, deliveries, and frames that are lost or doubled.
use Rattle.std.proofs.Common.{◌≡◌, inl, inr, ◌≤◌, ◌<◌, ◌+◌, ℕ, Bool, true, false, List, length, refl, sym, ap, ◌∙◌, subst, Option, Some, None, slice_get, arith}
use Rattle.std.specs.Prelude.{◌==◌, not, if◌then◌else◌}
use Rattle.std.proofs.lemmas.Bool.{cases_eq}
use Rattle.spb_types.specs.declared.address.BridgeId.{BridgeId}
use Rattle.spb_types.specs.declared.address.LspId.{LspId}
use Rattle.spb_types.specs.declared.link.Dir.{Dir}
use Rattle.spb_types.specs.Places.{changed_at}
use Rattle.link_model.specs.declared.lanes.LinkLanes.{LinkLanes}
use Rattle.link_model.specs.Lane.{Frame, after_lose, after_double, IsIn}
use Rattle.link_model.specs.Lanes.{changed_lane, lane_of, rest}
use Rattle.lsdb.specs.declared.version.Version.{Version}
use Rattle.lsdb.specs.Database.{version_at}
use Rattle.lsdb.specs.Certificate.{IsClaimed}
use Rattle.flooding.specs.Own.{last_number, IsOwnNumber}
use Rattle.bridge_api.specs.View.{BridgeView}
use Rattle.bridge_api.specs.Parsing.{is_hello}
use Rattle.bridge_api.specs.Step.{Input, second, frame, step, sent}
use Rattle.bridge_api.specs.Laws.{IsSoundView, claims_of}
use Rattle.bridge_laws.specs.Counting as counting
use Rattle.bridge_laws.specs.Counting.{Answered, is_claiming}
use Rattle.spb_world.specs.declared.declaration.DeclaredLink.{DeclaredLink}
use Rattle.spb_world.specs.World.{things_of}
use Rattle.network_model.specs.State.{State, links_of, lane_at, with_frames}
use Rattle.spb_world.specs.Links.{far_end}
use Rattle.network_model.specs.Events.{stepped, with_second, ticked, heard_over, delivered_front, delivered, lost, doubled}
use Rattle.network_model.specs.Sound.{AreShort}
use Rattle.network_model.specs.Counted.{IsCopy, is_held, hellos_in, hellos_to, IsWithin, IsCountedBy}
use Rattle.spb_world.proofs.BoxLemmas.{All-get}
use Rattle.network_model.proofs.BridgeLaws.{steps_answer}
use Rattle.network_model.proofs.FitsLemmas.{IsAlike, alike_itself, alike_with_frames}
use Rattle.network_model.proofs.SoundLane.{moved, moved_same}
use Rattle.network_model.proofs.SoundMoves.{IsCore, Comes, got_mapped}
use Rattle.network_model.proofs.SoundSteps.{only, only_here, only_is, IsInputAt, moves_stepped, core_stepped, in_changed, in_lost, in_doubled, short_rest}
use Rattle.network_model.proofs.SoundEvents.{stepped_world, front_comes, fewer_rest}
use Rattle.network_model.proofs.CountedSent.{AreNoHellos, relayed, quiet_lanes}
use Rattle.network_model.proofs.CountedHellos.{one, hellos_front, hellos_rest, hellos_lost, hellos_doubled, hellos_changed, hellos_taken}
use Rattle.network_model.proofs.Origins.{fewer_copies, fewer_origins}
use Rattle.network_model.proofs.CountedMoves.{Turn, is_within, length-things, claims_are_copies, stems, bound_after}
use Rattle.network_model.proofs.CountedSteps.{AreOwn, AreFar, own_moved, AreWeak, own_from, weak_bound, weak_from, counted_from, far_from_last}
use Rattle.network_model.proofs.CountedGains.{weak_moved, gain_at, only_beside, step_raises, bound_heard, hello_at, tick_hellos}

-- ---- one bridge steps

-- what is far from the last number, of all bridges
abbrev pub AreLow : State → (ℕ → ℕ) → Type 0
AreLow s n = (i : ℕ) (v : BridgeView) → slice_get s.views i ≡ Some v → n i < last_number

pub step_turn : (x : Input) (s : State) (lanes : List LinkLanes) (i : ℕ) → IsInputAt s.views i x → IsCore s → IsAlike s (record s { lanes = lanes }) → AreShort lanes → ((k : ℕ) (dir : Dir) (f : Frame) → IsIn f (lane_of lanes k dir) → IsIn f (lane_of s.lanes k dir)) → ((p : ℕ) (f : Frame) → x ≡ frame p f → Comes (links_of s) s.lanes i p f) → Turn s (stepped x (record s { lanes = lanes }) i) (only i x)
step_turn x s lanes i is_input core alike short fewer comes = record {
  before = core;
  after = core_stepped x s lanes i is_input core alike short fewer comes;
  world = stepped_world x (record s { lanes = lanes }) i;
  moves = moves_stepped x s lanes i is_input fewer comes;
}

pub far_stepping : (s : State) (n : ℕ → ℕ) (i : ℕ) (x : Input) → IsCore s → AreOwn s → AreWeak n s → AreLow s n → ((p : ℕ) (f : Frame) → x ≡ frame p f → Comes (links_of s) s.lanes i p f) → AreFar s (only i x)
far_stepping s n i x core are weak low comes j v y at is =
    let place = only_is i x j y is in
    far_from_last s n core are weak low j v y at (λ p f same. subst (λ (k : ℕ). Comes (links_of s) s.lanes k p f) (sym place.0) (comes p f (place.1 ∙ same)))

-- an input that claims nothing and sends no hello
pub step_weak : (x : Input) (s : State) (n : ℕ → ℕ) (i : ℕ) → IsInputAt s.views i x → IsCore s → AreOwn s → AreWeak n s → AreLow s n → is_claiming x ≡ false → ((v : BridgeView) → slice_get s.views i ≡ Some v → AreNoHellos (sent x v)) → ((p : ℕ) (f : Frame) → x ≡ frame p f → ⊥) → AreOwn (stepped x s i) × AreWeak (λ j. n j + gain_at i x j + 0) (stepped x s i)
step_weak x s n i is_input core are weak low quiet silent no_frame =
    let comes : (p : ℕ) (f : Frame) → x ≡ frame p f → Comes (links_of s) s.lanes i p f = λ p f is. absurd (no_frame p f is) in
    let turn : Turn s (stepped x s i) (only i x) = step_turn x s s.lanes i is_input core (alike_itself s) core.short (λ k dir f among. among) comes in
    let far : AreFar s (only i x) = far_stepping s n i x core are weak low comes in (
      own_moved s (stepped x s i) (only i x) turn are far,
      weak_moved s (stepped x s i) (only i x) n (gain_at i x) (λ j. 0) turn weak (step_raises s i x core far quiet) (λ j. let few = quiet_lanes x s i j silent in omega (arith, few)),
    )

-- ---- a tick

-- a second is counted
own_second : (s : State) (i : ℕ) → AreOwn s → AreOwn (with_second s i)
own_second s i own = record { fresh = own.fresh; held = own.held; said = own.said; origins = own.origins }

weak_second : (s : State) (n : ℕ → ℕ) (i : ℕ) → AreWeak n s → AreWeak n (with_second s i)
weak_second s n i weak j v id at own =
    let within = weak j v id at own in
    record { most = within.most; weak = within.weak; room = within.room }

pub tick_weak : (s : State) (n : ℕ → ℕ) (i : ℕ) → IsCore s → AreOwn s → AreWeak n s → AreLow s n → AreOwn (ticked s i) × AreWeak (λ j. n j + gain_at i second j + hello_at i j) (ticked s i)
tick_weak s n i core are weak low =
    let comes : (p : ℕ) (f : Frame) → second ≡ frame p f → Comes (links_of s) s.lanes i p f = λ p f is. absurd cc in
    let t : State = stepped second s i in
    let turn : Turn s t (only i second) = step_turn second s s.lanes i (λ v at. tt) core (alike_itself s) core.short (λ k dir f among. among) comes in
    let far : AreFar s (only i second) = far_stepping s n i second core are weak low comes in (
      own_second t i (own_moved s t (only i second) turn are far),
      weak_second t (λ j. n j + gain_at i second j + hello_at i j) i (weak_moved s t (only i second) n (gain_at i second) (hello_at i) turn weak (step_raises s i second core far refl) (λ j.
          let same : hellos_to (links_of t) t.lanes j ≡ hellos_to (links_of s) t.lanes j = λ k. hellos_to (things_of (stepped_world second s i k).links) t.lanes j in
          omega (arith, same, tick_hellos s i j core))),
    )

pub one_each : (i j : ℕ) → gain_at i second j + hello_at i j ≡ 1
one_each i j = by (j == i)
  where
    by : (b : Bool) → (if b then 1 else 0) + (if b then 0 else 1) ≡ 1
    by true = refl
    by false = refl

pub Counted-ticked : (s : State) (n i : ℕ) → IsCore s → IsCountedBy n s → n < last_number → IsCountedBy (n + 2) (ticked s i)
Counted-ticked s n i core counted low =
    let next = tick_weak s (λ j. n) i core (own_from n s counted) (weak_from n s counted) (λ j v at. low) in
    counted_from (λ j. n + gain_at i second j + hello_at i j) (n + 2) (ticked s i) next.0 next.1 (λ j v at. let one = one_each i j in omega (arith, one))

-- ---- frames go

-- frames are lost or doubled, and so many hellos more are on their way
pub counted_fewer : (s : State) (n c : ℕ) (lanes : List LinkLanes) → IsCountedBy n s → ((k : ℕ) (dir : Dir) (f : Frame) → IsIn f (lane_of lanes k dir) → IsIn f (lane_of s.lanes k dir)) → ((i : ℕ) → hellos_to (links_of s) lanes i ≤ hellos_to (links_of s) s.lanes i + c) → IsCountedBy (n + c) (record s { lanes = lanes })
counted_fewer s n c lanes counted fewer hellos = record {
  fresh = counted.fresh;
  held = counted.held;
  said = λ k dir f id a among claimed. counted.said k dir f id a (fewer k dir f among) claimed;
  origins = fewer_origins s lanes fewer counted.origins;
  bound = λ i v id at own.
      let within = counted.bound i v id at own in
      record { most = within.most; bound = λ a copy. within.bound a (fewer_copies s.views s.lanes lanes id a fewer copy); room = omega (arith, within.room, hellos i) };
}

pub Counted-lost : (s : State) (n k : ℕ) (dir : Dir) (place : ℕ) → IsCountedBy n s → IsCountedBy (n + 0) (lost s k dir place)
Counted-lost s n k dir place counted =
    let g : List Frame → List Frame = λ frames. after_lose frames place in
    counted_fewer s n 0 (changed_at (changed_lane dir g) s.lanes k) counted (λ j d f among. in_changed g (λ h frames. in_lost h frames place) s.lanes k dir j d f among) (hellos_changed g 0 (λ fs. let few = hellos_lost place fs in omega (arith, few)) (links_of s) s.lanes k dir)

pub Counted-doubled : (s : State) (n k : ℕ) (dir : Dir) (place : ℕ) → IsCountedBy n s → IsCountedBy (n + 1) (doubled s k dir place)
Counted-doubled s n k dir place counted =
    let g : List Frame → List Frame = λ frames. after_double frames place (slice_get frames place) in
    counted_fewer s n 1 (changed_at (changed_lane dir g) s.lanes k) counted (λ j d f among. in_changed g (λ h frames. in_doubled h frames place) s.lanes k dir j d f among) (hellos_changed g 1 (hellos_doubled place) (links_of s) s.lanes k dir)

rest_few : (fs : List Frame) → hellos_in (rest fs) ≤ hellos_in fs + 0
rest_few fs = let few = hellos_rest fs in omega (arith, few)

taken : (s : State) (n k : ℕ) (dir : Dir) → IsCountedBy n s → IsCountedBy (n + 0) (with_frames rest s k dir)
taken s n k dir counted = counted_fewer s n 0 (changed_at (changed_lane dir rest) s.lanes k) counted (fewer_rest s k dir) (hellos_changed rest 0 rest_few (links_of s) s.lanes k dir)

-- ---- a delivery

gain_small : (b c : Bool) → (if b then (if c then 1 else 0) else 0) ≤ 1
gain_small true true = omega arith
gain_small true false = omega arith
gain_small false c = omega arith

module _ (s : State) (n k : ℕ) (dir : Dir) (bytes : Frame) (l : DeclaredLink) (core : IsCore s) (counted : IsCountedBy n s) (low : n < last_number) (there : slice_get (links_of s) k ≡ Some l) (front : slice_get (lane_at s k dir) 0 ≡ Some bytes) where
  abbrev place : ℕ
  place = (far_end dir l).bridge

  abbrev x : Input
  x = frame (far_end dir l).port bytes

  abbrev left : List LinkLanes
  left = changed_at (changed_lane dir rest) s.lanes k

  abbrev t : State
  t = stepped x (with_frames rest s k dir) place

  turn : Turn s t (only place x)
  turn = step_turn x s left place (λ v at. tt) core (alike_with_frames rest s k dir) (short_rest s.lanes k dir core.short) (fewer_rest s k dir) (front_comes s k dir l bytes core there front)

  far : AreFar s (only place x)
  far = far_stepping s (λ i. n) place x core (own_from n s counted) (weak_from n s counted) (λ i v at. low) (front_comes s k dir l bytes core there front)

  no_second : (j : ℕ) → only place x j ≡ Some second → false ≡ true
  no_second j is = let same : x ≡ second = (only_is place x j second is).1 in absurd cc

  hellos_left : (i : ℕ) → hellos_to (links_of t) t.lanes i ≤ hellos_to (links_of s) left i
  hellos_left i = quiet_lanes x (with_frames rest s k dir) place i (λ v at. relayed (far_end dir l).port bytes v)

  copies : (id : LspId) (b : Version) → IsClaimed (claims_of x) id b → IsCopy s.views s.lanes id b
  copies id b claimed = claims_are_copies (links_of s) s.views s.lanes place x id b (front_comes s k dir l bytes core there front) claimed

  -- the bound stays where the owner answers, or keeps
  kept_within : (i : ℕ) (u : BridgeView) (id : LspId) → slice_get s.views i ≡ Some u → IsOwnNumber u.id.system id → Answered (version_at u.database id) (claims_of x) id (version_at (moved (only place x i) u).database id) → IsWithin t i (moved (only place x i) u) id n
  kept_within i u id at own answered =
      let within = counted.bound i u id at own in
      let few : hellos_to (links_of s) left i ≤ hellos_to (links_of s) s.lanes i + 0 = hellos_changed rest 0 rest_few (links_of s) s.lanes k dir i in
      record {
        most = within.most;
        bound = λ a copy. bound_heard s.views s.lanes u id (claims_of x) (version_at (moved (only place x i) u).database id) within.most within.bound (copies id) i a at answered (stems false s t (only place x) turn no_second i u id at own a copy);
        room = omega (arith, within.room, few, hellos_left i);
      }

  -- a hello that is heard is on its way no more
  hello_within : (i : ℕ) (u : BridgeView) (id : LspId) → slice_get s.views i ≡ Some u → IsOwnNumber u.id.system id → i ≡ place → is_hello bytes ≡ true → IsWithin t i (moved (only place x i) u) id n
  hello_within i u id at own here hello =
      let within = counted.bound i u id at own in
      let weak = weak_bound s.views s.lanes u id within.most within.bound in
      let raised = step_raises s place x core far (ap not hello) i u id at own in
      let held = weak (version_at u.database id) (is_held i u at refl) in
      let small : gain_at place x i ≤ 1 = gain_small (i == place) (is_hello bytes) in
      let one_there : one bytes ≡ 1 = ap (λ (b : Bool). if b then 1 else 0) hello in
      let in_lane : k < length s.lanes = omega (arith, is_within (links_of s) k l there, length-things s.world.links, core.fits.lanes) in
      let whole = hellos_front (lane_of s.lanes k dir) bytes front in
      let fewer : hellos_to (links_of s) left i + 1 ≤ hellos_to (links_of s) s.lanes i = hellos_taken rest 1 (links_of s) s.lanes k dir i l there (sym here) in_lane (omega (arith, whole, one_there)) in
      record {
        most = within.most + 1;
        bound = λ a copy. bound_after false s.views s.lanes id (version_at (moved (only place x i) u).database id) a within.most weak (omega (arith, raised, held, small)) (stems false s t (only place x) turn no_second i u id at own a copy);
        room = omega (arith, within.room, fewer, hellos_left i);
      }

  heard_within : (i : ℕ) (u : BridgeView) (id : LspId) (b : Bool) → slice_get s.views i ≡ Some u → IsOwnNumber u.id.system id → i ≡ place → is_hello bytes ≡ b → IsWithin t i (moved (only place x i) u) id n
  heard_within i u id true at own here hello = hello_within i u id at own here hello
  heard_within i u id false at own here hello =
      let some : only place x i ≡ Some x = ap (only place x) here ∙ only_here place x in
      let answered : Answered (version_at u.database id) (claims_of x) id (version_at (step x u).database id) = steps_answer x u id own (All-get IsSoundView s.views i u core.views at) (far i u x at some) (ap not hello) in
      kept_within i u id at own (subst (λ (o : Option Input). Answered (version_at u.database id) (claims_of x) id (version_at (moved o u).database id)) (sym some) answered)

  moved_within : (i : ℕ) (u : BridgeView) (id : LspId) → slice_get s.views i ≡ Some u → IsOwnNumber u.id.system id → IsWithin t i (moved (only place x i) u) id n
  moved_within i u id at own =
      elim (cases_eq i place) [
        | inl here ↦ heard_within i u id (is_hello bytes) at own here refl
        | inr apart ↦
            kept_within i u id at own (subst (λ (o : Option Input). Answered (version_at u.database id) (claims_of x) id (version_at (moved o u).database id)) (sym (only_beside place x i apart)) (counting.keeps refl))
      ]

  counted_heard : IsCountedBy n t
  counted_heard =
      let are : AreOwn t = own_moved s t (only place x) turn (own_from n s counted) far in
      record {
        fresh = are.fresh;
        held = are.held;
        said = are.said;
        origins = are.origins;
        bound = λ i w id at own.
            let from = got_mapped (moved (only place x i)) (slice_get s.views i) w (sym (turn.moves.bridges i) ∙ at) in
            let owned : IsOwnNumber from.0.id.system id = subst (λ (y : BridgeId). IsOwnNumber y.system id) (ap (λ (v : BridgeView). v.id) from.2 ∙ (moved_same (only place x i) from.0).id) own in
            subst (λ (v : BridgeView). IsWithin t i v id n) (sym from.2) (moved_within i from.0 id from.1 owned);
      }

pub same_allowance : (n : ℕ) (t : State) → IsCountedBy n t → IsCountedBy (n + 0) t
same_allowance n t counted = subst (λ (m : ℕ). IsCountedBy m t) (omega arith) counted

counted_over : (s : State) (n k : ℕ) (dir : Dir) (bytes : Frame) (o : Option DeclaredLink) → slice_get (links_of s) k ≡ o → slice_get (lane_at s k dir) 0 ≡ Some bytes → IsCore s → IsCountedBy n s → n < last_number → IsCountedBy (n + 0) (heard_over (with_frames rest s k dir) dir bytes o)
counted_over s n k dir bytes None there front core counted low = taken s n k dir counted
counted_over s n k dir bytes (Some l) there front core counted low = same_allowance n (stepped (frame (far_end dir l).port bytes) (with_frames rest s k dir) (far_end dir l).bridge) (counted_heard s n k dir bytes l core counted low there front)

counted_front : (s : State) (n k : ℕ) (dir : Dir) (o : Option Frame) → slice_get (lane_at s k dir) 0 ≡ o → IsCore s → IsCountedBy n s → n < last_number → IsCountedBy (n + 0) (delivered_front s k dir o)
counted_front s n k dir None front core counted low = same_allowance n s counted
counted_front s n k dir (Some bytes) front core counted low = counted_over s n k dir bytes (slice_get (links_of s) k) refl front core counted low

pub Counted-delivered : (s : State) (n k : ℕ) (dir : Dir) → IsCore s → IsCountedBy n s → n < last_number → IsCountedBy (n + 0) (delivered s k dir)
unfolding delivered
Counted-delivered s n k dir core counted low = counted_front s n k dir (slice_get (lane_at s k dir) 0) refl core counted low
