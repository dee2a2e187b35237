-- One bridge steps, frames go, or a link is switched: moves of the whole network.
use Rattle.std.proofs.Common.{◌≡◌, ◌≢◌, ◌≤◌, ◌<◌, ◌⊎◌, inl, inr, ◌+◌, ℕ, zero, suc, Bool, true, false, List, [], ◌∷◌, ◌++◌, length, take, drop, refl, sym, ap, ◌∙◌, subst, Option, Some, None, slice_get, arith}
use Rattle.spb_types.specs.declared.limits.TheConstants.{MOST_FRAMES}
use Rattle.std.specs.Prelude.{insert, remove, nat_lt, if◌then◌else◌}
use Rattle.std.specs.Option.{option_map, option_map_or}
use Rattle.std.proofs.lemmas.List.{length-append, length-take, length-drop}
use Rattle.std.proofs.lemmas.Bool.{ltb-true}
use Rattle.std.proofs.lemmas.Option.{slice_get_within}
use Rattle.link_model.specs.Lane.{Frame, has_room, pushed, after_lose, after_double, IsIn}
use Rattle.spb_types.specs.declared.link.Dir.{Dir}
use Rattle.spb_types.specs.declared.link.Dir.TheVariants.{Ab, Ba}
use Rattle.bridge_api.specs.View.{BridgeView}
use Rattle.bridge_api.specs.Step.{Input, frame, step, sent}
use Rattle.bridge_api.specs.Config.{ArePairwise}
use Rattle.bridge_api.specs.Laws.{IsInput, IsSent}
use Rattle.spb_world.specs.declared.declaration.DeclaredLink.{DeclaredLink}
use Rattle.spb_world.specs.declared.declaration.LinkEnd.{LinkEnd}
use Rattle.link_model.specs.declared.lanes.LinkLanes.{LinkLanes}
use Rattle.link_model.specs.declared.lanes.LaneId.{LaneId}
use Rattle.spb_world.specs.World.{World, Links, names_of, things_of}
use Rattle.link_model.specs.Lanes.{lane_in, changed_lane, rest, no_frames, lane_of}
use Rattle.spb_world.specs.Declaring.{switched, with_live}
use Rattle.spb_types.specs.Places.{changed_at}
use Rattle.network_model.specs.State.{State, links_of, with_frames}
use Rattle.spb_world.specs.Links.{is_live, near_end, far_end, lane_out}
use Rattle.network_model.specs.Events.{sent_over, sent_all, stepped}
use Rattle.network_model.specs.Sound.{AreShort, LinkAgrees, AllAgree, AreIdle}
use Rattle.spb_world.proofs.ListLemmas.{length-push}
use Rattle.spb_world.proofs.WorldLemmas.{Sound-with_live}
use Rattle.network_model.proofs.FitsLemmas.{IsAlike, alike_then, alike_stepped, Fits-with_live}
use Rattle.network_model.proofs.SoundLane.{moved, sent_by, AreInputs}
use Rattle.network_model.proofs.SoundMoves.{IsCore, Comes, GoesOut, Moves, sound_moves}

-- ---- what becomes of a lane

pub in_append : (f : Frame) (xs ys : List Frame) → IsIn f (xs ++ ys) → IsIn f xs ⊎ IsIn f ys
in_append f [] ys among = inr among
in_append f (x ∷ xs) ys (inl here) = inl (inl here)
in_append f (x ∷ xs) ys (inr there) =
    elim (in_append f xs ys there) [
      | inl left ↦ inl (inr left)
      | inr right ↦ inr right
    ]

in_take : (f : Frame) (n : ℕ) (xs : List Frame) → IsIn f (take n xs) → IsIn f xs
in_take f zero xs among = absurd among
in_take f (suc n) [] among = among
in_take f (suc n) (x ∷ xs) (inl here) = inl here
in_take f (suc n) (x ∷ xs) (inr there) = inr (in_take f n xs there)

in_drop : (f : Frame) (n : ℕ) (xs : List Frame) → IsIn f (drop n xs) → IsIn f xs
in_drop f zero xs among = among
in_drop f (suc n) [] among = among
in_drop f (suc n) (x ∷ xs) among = inr (in_drop f n xs among)

pub in_got : (f : Frame) (xs : List Frame) (i : ℕ) → slice_get xs i ≡ Some f → IsIn f xs
in_got f [] i at = absurd cc
in_got f (x ∷ xs) zero at = inl cc
in_got f (x ∷ xs) (suc i) at = inr (in_got f xs i at)

pub in_rest : (f : Frame) (frames : List Frame) → IsIn f (rest frames) → IsIn f frames
in_rest f [] among = among
in_rest f (x ∷ frames) among = inr among

in_lost_at : (b : Bool) (f : Frame) (frames : List Frame) (k : ℕ) → IsIn f (if b then remove frames k else frames) → IsIn f frames
in_lost_at true f frames k among =
    elim (in_append f (take k frames) (drop (suc k) frames) among) [
      | inl left ↦ in_take f k frames left
      | inr right ↦ in_drop f (suc k) frames right
    ]
in_lost_at false f frames k among = among

pub in_lost : (f : Frame) (frames : List Frame) (k : ℕ) → IsIn f (after_lose frames k) → IsIn f frames
in_lost f frames k among = in_lost_at (nat_lt k (length frames)) f frames k among

in_doubled_at : (b : Bool) (f x : Frame) (frames : List Frame) (k : ℕ) → slice_get frames k ≡ Some x → IsIn f (if b then insert frames (k + 1) x else frames) → IsIn f frames
in_doubled_at true f x frames k at among =
    elim (in_append f (take (k + 1) frames) (x ∷ drop (k + 1) frames) among) [
      | inl left ↦ in_take f (k + 1) frames left
      | inr right ↦ copied right
    ]
  where
    copied : IsIn f (x ∷ drop (k + 1) frames) → IsIn f frames
    copied (inl here) = subst (λ (g : Frame). IsIn g frames) (sym here) (in_got x frames k at)
    copied (inr there) = in_drop f (k + 1) frames there
in_doubled_at false f x frames k at among = among

in_doubled_copy : (o : Option Frame) (f : Frame) (frames : List Frame) (k : ℕ) → slice_get frames k ≡ o → IsIn f (after_double frames k o) → IsIn f frames
in_doubled_copy None f frames k at among = among
in_doubled_copy (Some x) f frames k at among = in_doubled_at (has_room frames) f x frames k at among

pub in_doubled : (f : Frame) (frames : List Frame) (k : ℕ) → IsIn f (after_double frames k (slice_get frames k)) → IsIn f frames
in_doubled f frames k among = in_doubled_copy (slice_get frames k) f frames k refl among

in_one : (f x : Frame) → IsIn f (x ∷ []) → f ≡ x
in_one f x (inl here) = here
in_one f x (inr there) = absurd there

in_pushed_at : (b : Bool) (f x : Frame) (frames : List Frame) → IsIn f (if b then frames ++ x ∷ [] else frames) → IsIn f frames ⊎ (f ≡ x)
in_pushed_at true f x frames among =
    elim (in_append f frames (x ∷ []) among) [
      | inl old ↦ inl old
      | inr new ↦ inr (in_one f x new)
    ]
in_pushed_at false f x frames among = inl among

in_pushed : (f x : Frame) (frames : List Frame) → IsIn f (pushed frames x) → IsIn f frames ⊎ (f ≡ x)
in_pushed f x frames among = in_pushed_at (has_room frames) f x frames among

-- one lane is changed, and every other is as it was
pub lane_changed : (g : List Frame → List Frame) (lanes : List LinkLanes) (j : ℕ) (d : Dir) (k : ℕ) (dir : Dir) → ((j ≡ k) × (d ≡ dir) × (lane_of (changed_at (changed_lane d g) lanes j) k dir ≡ g (lane_of lanes k dir))) ⊎ (lane_of (changed_at (changed_lane d g) lanes j) k dir ≡ lane_of lanes k dir)
lane_changed g [] j d k dir = inr refl
lane_changed g (x ∷ lanes) zero Ab zero Ab = inl (refl, refl, refl)
lane_changed g (x ∷ lanes) zero Ab zero Ba = inr refl
lane_changed g (x ∷ lanes) zero Ba zero Ab = inr refl
lane_changed g (x ∷ lanes) zero Ba zero Ba = inl (refl, refl, refl)
lane_changed g (x ∷ lanes) zero d (suc k) dir = inr refl
lane_changed g (x ∷ lanes) (suc j) d zero dir = inr refl
lane_changed g (x ∷ lanes) (suc j) d (suc k) dir =
    elim (lane_changed g lanes j d k dir) [
      | inl here ↦ inl (ap suc here.0, here.1, here.2)
      | inr same ↦ inr same
    ]

-- where only frames that were there are left
pub in_changed : (g : List Frame → List Frame) → ((f : Frame) (frames : List Frame) → IsIn f (g frames) → IsIn f frames) → (lanes : List LinkLanes) (j : ℕ) (d : Dir) (k : ℕ) (dir : Dir) (f : Frame) → IsIn f (lane_of (changed_at (changed_lane d g) lanes j) k dir) → IsIn f (lane_of lanes k dir)
in_changed g fewer lanes j d k dir f among =
    elim (lane_changed g lanes j d k dir) [
      | inl here ↦ fewer f (lane_of lanes k dir) (subst (IsIn f) here.2 among)
      | inr same ↦ subst (IsIn f) same among
    ]

pub flushed_lane : (lanes : List LinkLanes) (k : ℕ) (dir : Dir) → lane_of (changed_at (λ l. no_frames) lanes k) k dir ≡ []
flushed_lane [] k dir = refl
flushed_lane (x ∷ lanes) zero Ab = refl
flushed_lane (x ∷ lanes) zero Ba = refl
flushed_lane (x ∷ lanes) (suc k) dir = flushed_lane lanes k dir

none_in : (dir : Dir) (f : Frame) → IsIn f (lane_in dir no_frames) → ⊥
none_in Ab f among = among
none_in Ba f among = among

pub in_flushed : (lanes : List LinkLanes) (j k : ℕ) (dir : Dir) (f : Frame) → IsIn f (lane_of (changed_at (λ l. no_frames) lanes j) k dir) → IsIn f (lane_of lanes k dir)
in_flushed [] j k dir f among = among
in_flushed (x ∷ lanes) zero zero dir f among = absurd (none_in dir f among)
in_flushed (x ∷ lanes) zero (suc k) dir f among = among
in_flushed (x ∷ lanes) (suc j) zero dir f among = among
in_flushed (x ∷ lanes) (suc j) (suc k) dir f among = in_flushed lanes j k dir f among

-- ---- how many frames a lane holds

short_changed : (g : List Frame → List Frame) → ((frames : List Frame) → length frames ≤ MOST_FRAMES → length (g frames) ≤ MOST_FRAMES) → (lanes : List LinkLanes) (j : ℕ) (d : Dir) → AreShort lanes → AreShort (changed_at (changed_lane d g) lanes j)
short_changed g keeps lanes j d short k dir =
    elim (lane_changed g lanes j d k dir) [
      | inl here ↦ subst (λ (fs : List Frame). length fs ≤ MOST_FRAMES) (sym here.2) (keeps (lane_of lanes k dir) (short k dir))
      | inr same ↦ subst (λ (fs : List Frame). length fs ≤ MOST_FRAMES) (sym same) (short k dir)
    ]

pushed_at : (b : Bool) (x : Frame) (frames : List Frame) → nat_lt (length frames) MOST_FRAMES ≡ b → length frames ≤ MOST_FRAMES → length (if b then frames ++ x ∷ [] else frames) ≤ MOST_FRAMES
pushed_at true x frames room short = omega (arith, length-push frames x, ltb-true (length frames) MOST_FRAMES room)
pushed_at false x frames room short = short

pushed_short : (x : Frame) (frames : List Frame) → length frames ≤ MOST_FRAMES → length (pushed frames x) ≤ MOST_FRAMES
pushed_short x frames short = pushed_at (has_room frames) x frames refl short

rest_short : (frames : List Frame) → length frames ≤ MOST_FRAMES → length (rest frames) ≤ MOST_FRAMES
rest_short [] short = short
rest_short (x ∷ frames) short = omega (arith, short)

lost_at : (b : Bool) (k : ℕ) (frames : List Frame) → nat_lt k (length frames) ≡ b → length frames ≤ MOST_FRAMES → length (if b then remove frames k else frames) ≤ MOST_FRAMES
lost_at true k frames within short = omega (arith, length-append (take k frames) (drop (suc k) frames), length-take k frames, length-drop (suc k) frames, ltb-true k (length frames) within)
lost_at false k frames within short = short

lost_short : (k : ℕ) (frames : List Frame) → length frames ≤ MOST_FRAMES → length (after_lose frames k) ≤ MOST_FRAMES
lost_short k frames short = lost_at (nat_lt k (length frames)) k frames refl short

doubled_at : (b : Bool) (x : Frame) (k : ℕ) (frames : List Frame) → nat_lt (length frames) MOST_FRAMES ≡ b → k < length frames → length frames ≤ MOST_FRAMES → length (if b then insert frames (k + 1) x else frames) ≤ MOST_FRAMES
doubled_at true x k frames room within short = omega (arith, length-append (take (k + 1) frames) (x ∷ drop (k + 1) frames), length-take (k + 1) frames, length-drop (k + 1) frames, ltb-true (length frames) MOST_FRAMES room)
doubled_at false x k frames room within short = short

doubled_by : (o : Option Frame) (k : ℕ) (frames : List Frame) → slice_get frames k ≡ o → length frames ≤ MOST_FRAMES → length (after_double frames k o) ≤ MOST_FRAMES
doubled_by None k frames at short = short
doubled_by (Some x) k frames at short = doubled_at (has_room frames) x k frames refl (slice_get_within frames k x at) short

doubled_short : (k : ℕ) (frames : List Frame) → length frames ≤ MOST_FRAMES → length (after_double frames k (slice_get frames k)) ≤ MOST_FRAMES
doubled_short k frames short = doubled_by (slice_get frames k) k frames refl short

pub short_rest : (lanes : List LinkLanes) (j : ℕ) (d : Dir) → AreShort lanes → AreShort (changed_at (changed_lane d rest) lanes j)
short_rest lanes j d short = short_changed rest rest_short lanes j d short

pub short_lost : (place : ℕ) (lanes : List LinkLanes) (j : ℕ) (d : Dir) → AreShort lanes → AreShort (changed_at (changed_lane d (λ frames. after_lose frames place)) lanes j)
short_lost place lanes j d short = short_changed (λ frames. after_lose frames place) (lost_short place) lanes j d short

pub short_doubled : (place : ℕ) (lanes : List LinkLanes) (j : ℕ) (d : Dir) → AreShort lanes → AreShort (changed_at (changed_lane d (λ frames. after_double frames place (slice_get frames place))) lanes j)
short_doubled place lanes j d short = short_changed (λ frames. after_double frames place (slice_get frames place)) (doubled_short place) lanes j d short

empty_lane : (dir : Dir) → length (lane_in dir no_frames) ≤ MOST_FRAMES
empty_lane Ab = omega arith
empty_lane Ba = omega arith

pub short_flushed : (lanes : List LinkLanes) (j k : ℕ) (dir : Dir) → length (lane_of lanes k dir) ≤ MOST_FRAMES → length (lane_of (changed_at (λ l. no_frames) lanes j) k dir) ≤ MOST_FRAMES
short_flushed [] j k dir short = short
short_flushed (x ∷ lanes) zero zero dir short = empty_lane dir
short_flushed (x ∷ lanes) zero (suc k) dir short = short
short_flushed (x ∷ lanes) (suc j) zero dir short = short
short_flushed (x ∷ lanes) (suc j) (suc k) dir short = short_flushed lanes j k dir short

-- ---- what is sent

-- a frame of these is sent by the bridge at place i into a lane of a link that is up
pub record IsSentOver (links : List DeclaredLink) (i : ℕ) (fs : List (ℕ × List ℕ)) (k : ℕ) (dir : Dir) (f : Frame) : Type 0 where
  pub port : ℕ
  pub out : lane_out links i port ≡ Some (record { link = k; dir = dir })
  pub live : is_live links k ≡ true
  pub sent : IsSent fs port f

pub world-sent_over : (s : State) (lane : Option LaneId) (x : Frame) → (sent_over s lane x).world ≡ s.world
world-sent_over s None x = refl
world-sent_over s (Some lane) x = by (is_live (links_of s) lane.link)
  where
    by : (live : Bool) → (if live then with_frames (λ frames. pushed frames x) s lane.link lane.dir else s).world ≡ s.world
    by true = refl
    by false = refl

pub views-sent_over : (s : State) (lane : Option LaneId) (x : Frame) → (sent_over s lane x).views ≡ s.views
views-sent_over s None x = refl
views-sent_over s (Some lane) x = by (is_live (links_of s) lane.link)
  where
    by : (live : Bool) → (if live then with_frames (λ frames. pushed frames x) s lane.link lane.dir else s).views ≡ s.views
    by true = refl
    by false = refl

in_sent_over : (s : State) (lane : Option LaneId) (x : Frame) (k : ℕ) (dir : Dir) (f : Frame) → IsIn f (lane_of (sent_over s lane x).lanes k dir) → IsIn f (lane_of s.lanes k dir) ⊎ ((lane ≡ Some (record { link = k; dir = dir })) × (is_live (links_of s) k ≡ true) × (f ≡ x))
in_sent_over s None x k dir f among = inl among
in_sent_over s (Some lane) x k dir f among = by (is_live (links_of s) lane.link) refl among
  where
    new : lane.link ≡ k → lane.dir ≡ dir → is_live (links_of s) lane.link ≡ true → IsIn f (lane_of s.lanes k dir) ⊎ (f ≡ x) → IsIn f (lane_of s.lanes k dir) ⊎ ((Some lane ≡ Some (record { link = k; dir = dir })) × (is_live (links_of s) k ≡ true) × (f ≡ x))
    new link to live (inl old) = inl old
    new link to live (inr is) = inr (λ i. Some (record { link = link i; dir = to i }), ap (is_live (links_of s)) (sym link) ∙ live, is)

    by : (live : Bool) → is_live (links_of s) lane.link ≡ live → IsIn f (lane_of (if live then with_frames (λ frames. pushed frames x) s lane.link lane.dir else s).lanes k dir) → IsIn f (lane_of s.lanes k dir) ⊎ ((Some lane ≡ Some (record { link = k; dir = dir })) × (is_live (links_of s) k ≡ true) × (f ≡ x))
    by true live among =
        elim (lane_changed (λ frames. pushed frames x) s.lanes lane.link lane.dir k dir) [
          | inl here ↦ new here.0 here.1 live (in_pushed f x (lane_of s.lanes k dir) (subst (IsIn f) here.2 among))
          | inr same ↦ inl (subst (IsIn f) same among)
        ]
    by false live among = inl among

pub world-sent_all : (s : State) (i : ℕ) (fs : List (ℕ × List ℕ)) → (sent_all s i fs).world ≡ s.world
world-sent_all s i [] = refl
world-sent_all s i (x ∷ fs) = world-sent_all (sent_over s (lane_out (links_of s) i x.0) x.1) i fs ∙ world-sent_over s (lane_out (links_of s) i x.0) x.1

pub views-sent_all : (s : State) (i : ℕ) (fs : List (ℕ × List ℕ)) → (sent_all s i fs).views ≡ s.views
views-sent_all s i [] = refl
views-sent_all s i (x ∷ fs) = views-sent_all (sent_over s (lane_out (links_of s) i x.0) x.1) i fs ∙ views-sent_over s (lane_out (links_of s) i x.0) x.1

short_sent_over : (s : State) (lane : Option LaneId) (x : Frame) → AreShort s.lanes → AreShort (sent_over s lane x).lanes
short_sent_over s None x short = short
short_sent_over s (Some lane) x short = by (is_live (links_of s) lane.link)
  where
    by : (live : Bool) → AreShort (if live then with_frames (λ frames. pushed frames x) s lane.link lane.dir else s).lanes
    by true = short_changed (λ frames. pushed frames x) (pushed_short x) s.lanes lane.link lane.dir short
    by false = short

short_sent_all : (s : State) (i : ℕ) (fs : List (ℕ × List ℕ)) → AreShort s.lanes → AreShort (sent_all s i fs).lanes
short_sent_all s i [] short = short
short_sent_all s i (x ∷ fs) short = short_sent_all (sent_over s (lane_out (links_of s) i x.0) x.1) i fs (short_sent_over s (lane_out (links_of s) i x.0) x.1 short)

in_sent_all : (s : State) (i : ℕ) (fs : List (ℕ × List ℕ)) (k : ℕ) (dir : Dir) (f : Frame) → IsIn f (lane_of (sent_all s i fs).lanes k dir) → IsIn f (lane_of s.lanes k dir) ⊎ IsSentOver (links_of s) i fs k dir f
in_sent_all s i [] k dir f among = inl among
in_sent_all s i (x ∷ fs) k dir f among =
    let lane : Option LaneId = lane_out (links_of s) i x.0 in
    let next : State = sent_over s lane x.1 in
    elim (in_sent_all next i fs k dir f among) [
      | inl before ↦
          elim (in_sent_over s lane x.1 k dir f before) [
            | inl old ↦ inl old
            | inr new ↦ inr (record { port = x.0; out = new.0; live = new.1; sent = inl (refl, sym new.2) })
          ]
      | inr later ↦
          let over : IsSentOver (links_of s) i fs k dir f = subst (λ (w : World). IsSentOver (things_of w.links) i fs k dir f) (world-sent_over s lane x.1) later in
          inr (record { port = over.port; out = over.out; live = over.live; sent = inr over.sent })
    ]

-- ---- one bridge steps

-- something comes to the bridge at one place, and nothing elsewhere
pub only : ℕ → Input → ℕ → Option Input
only zero x zero = Some x
only zero x (suc j) = None
only (suc i) x zero = None
only (suc i) x (suc j) = only i x j

pub only_here : (i : ℕ) (x : Input) → only i x i ≡ Some x
unfolding only
only_here zero x = refl
only_here (suc i) x = only_here i x

pub only_is : (i : ℕ) (x : Input) (j : ℕ) (y : Input) → only i x j ≡ Some y → (j ≡ i) × (x ≡ y)
unfolding only
only_is zero x zero y is = (refl, cc)
only_is zero x (suc j) y is = absurd cc
only_is (suc i) x zero y is = absurd cc
only_is (suc i) x (suc j) y is = let rest = only_is i x j y is in (ap suc rest.0, rest.1)

-- what comes to the bridge at a place, if there is one, is an input of it
abbrev pub IsInputAt : List BridgeView → ℕ → Input → Type 0
IsInputAt views i x = (v : BridgeView) → slice_get views i ≡ Some v → IsInput v x

only_input : (views : List BridgeView) (i : ℕ) (x : Input) (j : ℕ) → IsInputAt views i x → (v : BridgeView) → slice_get views j ≡ Some v → AreInputs v (only i x j)
unfolding only
only_input [] i x j is v at = absurd cc
only_input (u ∷ views) zero x zero is v at = is v at
only_input (u ∷ views) zero x (suc j) is v at = tt
only_input (u ∷ views) (suc i) x zero is v at = tt
only_input (u ∷ views) (suc i) x (suc j) is v at = only_input views i x j is v at

map-moved_none : (o : Option BridgeView) → o ≡ option_map (moved None) o
map-moved_none None = refl
map-moved_none (Some v) = refl

get-changed : (x : Input) (views : List BridgeView) (i j : ℕ) → slice_get (changed_at (step x) views i) j ≡ option_map (moved (only i x j)) (slice_get views j)
unfolding only
get-changed x [] i j = refl
get-changed x (v ∷ views) zero zero = refl
get-changed x (v ∷ views) zero (suc j) = map-moved_none (slice_get views j)
get-changed x (v ∷ views) (suc i) zero = refl
get-changed x (v ∷ views) (suc i) (suc j) = get-changed x views i j

goes_out : (s : State) (x : Input) (i : ℕ) (o : Option BridgeView) (k : ℕ) (dir : Dir) (f : Frame) → slice_get s.views i ≡ o → IsSentOver (links_of s) i (option_map_or (sent x) o []) k dir f → GoesOut (links_of s) (only i x) s.views k dir f
goes_out s x i None k dir f at over = absurd over.sent
goes_out s x i (Some v) k dir f at over = record {
  place = i;
  port = over.port;
  view = v;
  out = over.out;
  live = over.live;
  from = at;
  sent = subst (λ (y : Option Input). IsSent (sent_by y v) over.port f) (sym (only_here i x)) over.sent;
}

-- something comes to a bridge after frames were lost or taken from lanes; a frame that comes stood in the lane towards it
pub moves_stepped : (x : Input) (s : State) (lanes : List LinkLanes) (i : ℕ) → IsInputAt s.views i x → ((k : ℕ) (dir : Dir) (f : Frame) → IsIn f (lane_of lanes k dir) → IsIn f (lane_of s.lanes k dir)) → ((p : ℕ) (f : Frame) → x ≡ frame p f → Comes (links_of s) s.lanes i p f) → Moves (links_of s) (only i x) s.views (stepped x (record s { lanes = lanes }) i).views s.lanes (stepped x (record s { lanes = lanes }) i).lanes
unfolding stepped
moves_stepped x s lanes i is_input fewer comes = record {
  bridges = λ j. ap (λ (views : List BridgeView). slice_get views j) (views-sent_all next i fs) ∙ get-changed x s.views i j;
  inputs = λ j v at. only_input s.views i x j is_input v at;
  heard = λ j p f is. heard j p f (only_is i x j (frame p f) is);
  frames = λ k dir f among. frames k dir f (in_sent_all next i fs k dir f among);
}
  where
    next : State
    next = record s { lanes = lanes; views = changed_at (step x) s.views i }

    fs : List (ℕ × List ℕ)
    fs = option_map_or (sent x) (slice_get s.views i) []

    heard : (j p : ℕ) (f : Frame) → (j ≡ i) × (x ≡ frame p f) → Comes (links_of s) s.lanes j p f
    heard j p f is = subst (λ (n : ℕ). Comes (links_of s) s.lanes n p f) (sym is.0) (comes p f is.1)

    frames : (k : ℕ) (dir : Dir) (f : Frame) → IsIn f (lane_of lanes k dir) ⊎ IsSentOver (links_of s) i fs k dir f → IsIn f (lane_of s.lanes k dir) ⊎ GoesOut (links_of s) (only i x) s.views k dir f
    frames k dir f (inl old) = inl (fewer k dir f old)
    frames k dir f (inr new) = inr (goes_out s x i (slice_get s.views i) k dir f refl new)

world_stepped : (x : Input) (s : State) (lanes : List LinkLanes) (i : ℕ) → (stepped x (record s { lanes = lanes }) i).world ≡ s.world
unfolding stepped
world_stepped x s lanes i = world-sent_all (record s { lanes = lanes; views = changed_at (step x) s.views i }) i (option_map_or (sent x) (slice_get s.views i) [])

short_stepped : (x : Input) (s : State) (i : ℕ) → AreShort s.lanes → AreShort (stepped x s i).lanes
unfolding stepped
short_stepped x s i short = short_sent_all (record s { views = changed_at (step x) s.views i }) i (option_map_or (sent x) (slice_get s.views i) []) short

pub core_stepped : (x : Input) (s : State) (lanes : List LinkLanes) (i : ℕ) → IsInputAt s.views i x → IsCore s → IsAlike s (record s { lanes = lanes }) → AreShort lanes → ((k : ℕ) (dir : Dir) (f : Frame) → IsIn f (lane_of lanes k dir) → IsIn f (lane_of s.lanes k dir)) → ((p : ℕ) (f : Frame) → x ≡ frame p f → Comes (links_of s) s.lanes i p f) → IsCore (stepped x (record s { lanes = lanes }) i)
core_stepped x s lanes i is_input core alike short fewer comes =
    let t : State = stepped x (record s { lanes = lanes }) i in
    sound_moves s t (only i x) core (world_stepped x s lanes i) (alike_then s (record s { lanes = lanes }) t alike (alike_stepped x (record s { lanes = lanes }) i)) (short_stepped x (record s { lanes = lanes }) i short) (moves_stepped x s lanes i is_input fewer comes)

-- ---- frames go

pub moves_fewer : (s : State) (lanes : List LinkLanes) → ((k : ℕ) (dir : Dir) (f : Frame) → IsIn f (lane_of lanes k dir) → IsIn f (lane_of s.lanes k dir)) → Moves (links_of s) (λ j. None) s.views s.views s.lanes lanes
moves_fewer s lanes fewer = record {
  bridges = λ j. map-moved_none (slice_get s.views j);
  inputs = λ j v at. tt;
  heard = λ j p f is. absurd cc;
  frames = λ k dir f among. inl (fewer k dir f among);
}

pub core_fewer : (s : State) (lanes : List LinkLanes) → IsCore s → IsAlike s (record s { lanes = lanes }) → AreShort lanes → ((k : ℕ) (dir : Dir) (f : Frame) → IsIn f (lane_of lanes k dir) → IsIn f (lane_of s.lanes k dir)) → IsCore (record s { lanes = lanes })
core_fewer s lanes core alike short fewer =
    sound_moves s (record s { lanes = lanes }) (λ j. None) core refl alike short (moves_fewer s lanes fewer)

-- ---- a link is switched

pub live-switched : (on : Bool) (ls : Links) (k j : ℕ) → ((j ≡ k) × (is_live (things_of (switched on ls k)) j ≡ on)) ⊎ (is_live (things_of (switched on ls k)) j ≡ is_live (things_of ls) j)
live-switched on [] k j = inr refl
live-switched on (l ∷ ls) zero zero = inl (refl, refl)
live-switched on (l ∷ ls) zero (suc j) = inr refl
live-switched on (l ∷ ls) (suc k) zero = inr refl
live-switched on (l ∷ ls) (suc k) (suc j) =
    elim (live-switched on ls k j) [
      | inl here ↦ inl (ap suc here.0, here.1)
      | inr same ↦ inr same
    ]

-- the same link, up or down
pub record IsSameLink (links : List DeclaredLink) (j : ℕ) (l : DeclaredLink) : Type 0 where
  pub link : DeclaredLink
  pub there : slice_get links j ≡ Some link
  pub a : link.a ≡ l.a
  pub b : link.b ≡ l.b

pub switched_link : (on : Bool) (ls : Links) (k j : ℕ) (l : DeclaredLink) → slice_get (things_of (switched on ls k)) j ≡ Some l → IsSameLink (things_of ls) j l
switched_link on [] k j l at = absurd cc
switched_link on (h ∷ ls) zero zero l at = record { link = h.1; there = refl; a = ap_some (λ (m : DeclaredLink). m.a) at; b = ap_some (λ (m : DeclaredLink). m.b) at }
  where
    ap_some : (end : DeclaredLink → LinkEnd) → Some (record h.1 { live = on }) ≡ Some l → end (record h.1 { live = on }) ≡ end l
    ap_some end e = let is : record h.1 { live = on } ≡ l = cc in ap end is
switched_link on (h ∷ ls) zero (suc j) l at = record { link = l; there = at; a = refl; b = refl }
switched_link on (h ∷ ls) (suc k) zero l at = record { link = h.1; there = refl; a = let is : h.1 ≡ l = cc in ap (λ (m : DeclaredLink). m.a) is; b = let is : h.1 ≡ l = cc in ap (λ (m : DeclaredLink). m.b) is }
switched_link on (h ∷ ls) (suc k) (suc j) l at = let rest = switched_link on ls k j l at in record { link = rest.link; there = rest.there; a = rest.a; b = rest.b }

pub same_near : (dir : Dir) (h l : DeclaredLink) → h.a ≡ l.a → h.b ≡ l.b → near_end dir h ≡ near_end dir l
same_near Ab h l a b = a
same_near Ba h l a b = b

same_far : (dir : Dir) (h l : DeclaredLink) → h.a ≡ l.a → h.b ≡ l.b → far_end dir h ≡ far_end dir l
same_far Ab h l a b = b
same_far Ba h l a b = a

agree_switched : (on : Bool) (ls : Links) (k : ℕ) (views : List BridgeView) (lanes : List LinkLanes) → AllAgree (things_of ls) views lanes → AllAgree (things_of (switched on ls k)) views lanes
agree_switched on ls k views lanes agree j dir l v w at at_v at_w =
    let was = switched_link on ls k j l at in
    let near : near_end dir was.link ≡ near_end dir l = same_near dir was.link l was.a was.b in
    let far : far_end dir was.link ≡ far_end dir l = same_far dir was.link l was.a was.b in
    subst (λ (e : LinkEnd). LinkAgrees v (near_end dir l).port w e.port (lane_of lanes j dir)) far
    (subst (λ (e : LinkEnd). LinkAgrees v e.port w (far_end dir was.link).port (lane_of lanes j dir)) near
    (agree j dir was.link v w was.there (ap (λ (e : LinkEnd). slice_get views e.bridge) near ∙ at_v) (ap (λ (e : LinkEnd). slice_get views e.bridge) far ∙ at_w)))

idle_switched : (on : Bool) (ls : Links) (k : ℕ) (lanes : List LinkLanes) → AreIdle (things_of ls) lanes → (on ≡ false → (dir : Dir) → lane_of lanes k dir ≡ []) → AreIdle (things_of (switched on ls k)) lanes
idle_switched on ls k lanes idle empty j dir dead =
    elim (live-switched on ls k j) [
      | inl here ↦ ap (λ (n : ℕ). lane_of lanes n dir) here.0 ∙ empty (sym here.1 ∙ dead) dir
      | inr same ↦ idle j dir (sym same ∙ dead)
    ]

names-switched : (on : Bool) (ls : Links) (k : ℕ) → names_of (switched on ls k) ≡ names_of ls
names-switched on [] k = refl
names-switched on (l ∷ ls) zero = refl
names-switched on (l ∷ ls) (suc k) = ap (λ names. l.0 ∷ names) (names-switched on ls k)

-- a link that goes down has no frame on its way
pub core_with_live : (on : Bool) (s : State) (k : ℕ) → IsCore s → (on ≡ false → (dir : Dir) → lane_of s.lanes k dir ≡ []) → IsCore (record s { world = with_live on s.world k })
unfolding with_live
core_with_live on s k core empty = record {
  world = Sound-with_live on s.world k core.world;
  distinct = record { bridges = core.distinct.bridges; sources = core.distinct.sources; links = subst (ArePairwise (λ x y. x ≢ y)) (sym (names-switched on s.world.links k)) core.distinct.links };
  fits = Fits-with_live on s k core.fits;
  shown = core.shown;
  views = core.views;
  short = core.short;
  idle = idle_switched on s.world.links k s.lanes core.idle empty;
  agree = agree_switched on s.world.links k s.views s.lanes core.agree;
}
