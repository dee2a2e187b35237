-- A round, bridge by bridge: where no customer's frame is on its way, each bridge has a second, and then hears what comes.
use Rattle.std.proofs.Common.{◌≡◌, ◌≢◌, inl, inr, ℕ, zero, suc, ◌+◌, ◌<◌, ◌≤◌, ◌==◌, Bool, true, false, List, [], ◌∷◌, ◌++◌, length, map, refl, sym, ap, ◌∙◌, subst, Option, Some, None, slice_get, if◌then◌else◌, nat_lt, eqb-true, eq-eqb, arith}
use Rattle.std.proofs.lemmas.Bool.{eqb-false, ltb-true, ltb-false}
use Rattle.std.specs.Option.{option_map}
use Rattle.std.specs.List.{AllByRecursion}
use Rattle.link_model.specs.Lane.{Frame}
use Rattle.link_model.specs.Lanes.{lane_in, changed_lane, rest, lane_of, changed_frames}
use Rattle.link_model.specs.declared.lanes.LinkLanes.{LinkLanes}
use Rattle.spb_types.specs.Places.{changed_at}
use Rattle.spb_types.specs.declared.link.Dir.{Dir}
use Rattle.spb_types.specs.declared.link.Dir.TheVariants.{Ab, Ba}
use Rattle.bridge_api.specs.View.{BridgeView}
use Rattle.bridge_api.specs.Parsing.{parsed, is_carrying}
use Rattle.bridge_api.specs.Step.{second, frame, step}
use Rattle.bridge_laws.proofs.Isolation.{second_carries_none}
use Rattle.bridge_rounds.specs.Inbox.{Inbox, heard_all}
use Rattle.bridge_rounds.proofs.FramesHeard.{control_is_silent}
use Rattle.spb_world.specs.declared.declaration.DeclaredLink.{DeclaredLink}
use Rattle.spb_world.specs.Links.{far_end}
use Rattle.spb_world.specs.World.{World, things_of}
use Rattle.spb_world.proofs.ListLemmas.{length-things}
use Rattle.network_model.specs.State.{State, links_of, lane_at, with_frames}
use Rattle.network_model.specs.Events.{heard_over, delivered_front, delivered, ticked, ticked_from, delivered_times, lane_served, link_served, served_from, all_ticked, one_round}
use Rattle.network_model.proofs.ApartLanes.{stepped_each}
use Rattle.network_model.proofs.FitsLemmas.{length-changed, alike_ticked_from}
use Rattle.network_model.proofs.SentLanes.{changed_beside}
use Rattle.network_model.proofs.SoundEvents.{stepped_world, stepped_views}
use Rattle.network_model.proofs.SoundSteps.{lane_changed}
use Rattle.network_model.specs.Sound.{IsSoundState}
use Rattle.network_rounds.specs.Rounds.{coming, coming_over, inbox_from, inbox, HasNoCustomers, RoundsAreHeard}
use Rattle.network_rounds.proofs.Silent.{silent_step}

-- ---- lists by place

changed_id : {X : Type 0} (xs : List X) (i : ℕ) → changed_at (λ x. x) xs i ≡ xs
changed_id [] i = refl
changed_id (x ∷ xs) zero = refl
changed_id (x ∷ xs) (suc i) = ap (λ ys. x ∷ ys) (changed_id xs i)

changed_twice : {X : Type 0} (f g : X → X) (xs : List X) (i : ℕ) → changed_at g (changed_at f xs i) i ≡ changed_at (λ x. g (f x)) xs i
changed_twice f g [] i = refl
changed_twice f g (x ∷ xs) zero = refl
changed_twice f g (x ∷ xs) (suc i) = ap (λ ys. x ∷ ys) (changed_twice f g xs i)

map_id : {X : Type 0} (o : Option X) → o ≡ option_map (λ x. x) o
map_id None = refl
map_id (Some x) = refl

map_twice : {X Y Z : Type 0} (f : X → Y) (g : Y → Z) (o : Option X) → option_map g (option_map f o) ≡ option_map (λ x. g (f x)) o
map_twice f g None = refl
map_twice f g (Some x) = refl

changed_here : {X : Type 0} (f : X → X) (xs : List X) (i : ℕ) → slice_get (changed_at f xs i) i ≡ option_map f (slice_get xs i)
changed_here f [] i = refl
changed_here f (x ∷ xs) zero = refl
changed_here f (x ∷ xs) (suc i) = changed_here f xs i

changed_got : {X : Type 0} (f : X → X) (xs : List X) (i j : ℕ) → slice_get (changed_at f xs i) j ≡ option_map (λ x. if i == j then f x else x) (slice_get xs j)
changed_got f xs i j = by (i == j) refl
  where
    by : (b : Bool) → (i == j) ≡ b → slice_get (changed_at f xs i) j ≡ option_map (λ x. if b then f x else x) (slice_get xs j)
    by true e = let is : i ≡ j = eqb-true i j e in subst (λ (n : ℕ). slice_get (changed_at f xs i) n ≡ option_map f (slice_get xs n)) is (changed_here f xs i)
    by false e = changed_beside f xs i j (λ same. eqb-false i j e (sym same)) ∙ map_id (slice_get xs j)

got : {X : Type 0} (xs : List X) (i : ℕ) → i < length xs → (x : X) × (slice_get xs i ≡ Some x)
got [] i within = absurd (omega (arith, within))
got (x ∷ xs) zero within = (x, refl)
got (x ∷ xs) (suc i) within = got xs i (omega (arith, within))

none_past : {X : Type 0} (xs : List X) (j : ℕ) → length xs ≤ j → slice_get xs j ≡ None
none_past [] j le = refl
none_past (x ∷ xs) zero le = absurd (omega (arith, le))
none_past (x ∷ xs) (suc j) le = none_past xs j (omega (arith, le))

-- ---- lanes

abbrev emptied : List Frame → List Frame
emptied frames = []

abbrev CarryNone : List Frame → Type 0
CarryNone frames = AllByRecursion (λ bytes. is_carrying (parsed bytes) ≡ false) frames

same_empty : (dir : Dir) (x : LinkLanes) → lane_in dir x ≡ [] → changed_lane dir emptied x ≡ x
same_empty Ab x e = λ j. record x { ab = sym e j }
same_empty Ba x e = λ j. record x { ba = sym e j }

empty_same : (lanes : List LinkLanes) (k : ℕ) (dir : Dir) → lane_of lanes k dir ≡ [] → changed_at (changed_lane dir emptied) lanes k ≡ lanes
empty_same [] k dir e = refl
empty_same (x ∷ lanes) zero dir e = ap (λ y. y ∷ lanes) (same_empty dir x e)
empty_same (x ∷ lanes) (suc k) dir e = ap (λ ys. x ∷ ys) (empty_same lanes k dir e)

twice : (dir : Dir) (x : LinkLanes) → changed_lane dir emptied (changed_lane dir rest x) ≡ changed_lane dir emptied x
twice Ab x = refl
twice Ba x = refl

emptied_twice : (lanes : List LinkLanes) (k : ℕ) (dir : Dir) → changed_at (changed_lane dir emptied) (changed_at (changed_lane dir rest) lanes k) k ≡ changed_at (changed_lane dir emptied) lanes k
emptied_twice [] k dir = refl
emptied_twice (x ∷ lanes) zero dir = ap (λ y. y ∷ lanes) (twice dir x)
emptied_twice (x ∷ lanes) (suc k) dir = ap (λ ys. x ∷ ys) (emptied_twice lanes k dir)

in_here : (g : List Frame → List Frame) (dir : Dir) (x : LinkLanes) → lane_in dir (changed_lane dir g x) ≡ g (lane_in dir x)
in_here g Ab x = refl
in_here g Ba x = refl

lane_here : (g : List Frame → List Frame) (lanes : List LinkLanes) (k : ℕ) (dir : Dir) → g [] ≡ [] → lane_of (changed_at (changed_lane dir g) lanes k) k dir ≡ g (lane_of lanes k dir)
lane_here g [] k dir none = sym none
lane_here g (x ∷ lanes) zero dir none = in_here g dir x
lane_here g (x ∷ lanes) (suc k) dir none = lane_here g lanes k dir none

-- another link's lanes
lane_away : (f : LinkLanes → LinkLanes) (lanes : List LinkLanes) (k j : ℕ) (dir : Dir) → j ≢ k → lane_of (changed_at f lanes k) j dir ≡ lane_of lanes j dir
lane_away f [] k j dir apart = refl
lane_away f (x ∷ lanes) zero zero dir apart = absurd (apart refl)
lane_away f (x ∷ lanes) zero (suc j) dir apart = refl
lane_away f (x ∷ lanes) (suc k) zero dir apart = refl
lane_away f (x ∷ lanes) (suc k) (suc j) dir apart = lane_away f lanes k j dir (λ e. apart (ap suc e))

-- the other lane of a link
other_way : (g : List Frame → List Frame) (lanes : List LinkLanes) (k : ℕ) → lane_of (changed_at (changed_lane Ab g) lanes k) k Ba ≡ lane_of lanes k Ba
other_way g [] k = refl
other_way g (x ∷ lanes) zero = refl
other_way g (x ∷ lanes) (suc k) = other_way g lanes k

other_back : (g : List Frame → List Frame) (lanes : List LinkLanes) (k : ℕ) → lane_of (changed_at (changed_lane Ba g) lanes k) k Ab ≡ lane_of lanes k Ab
other_back g [] k = refl
other_back g (x ∷ lanes) zero = refl
other_back g (x ∷ lanes) (suc k) = other_back g lanes k

past : (lanes : List LinkLanes) (j : ℕ) (dir : Dir) → length lanes ≤ j → lane_of lanes j dir ≡ []
past [] j dir le = refl
past (x ∷ lanes) zero dir le = absurd (omega (arith, le))
past (x ∷ lanes) (suc j) dir le = past lanes j dir (omega (arith, le))

clean_emptied : (lanes : List LinkLanes) (k : ℕ) (dir : Dir) → HasNoCustomers lanes → HasNoCustomers (changed_frames emptied lanes k dir)
clean_emptied lanes k dir clean j d =
    elim (lane_changed emptied lanes k dir j d) [
      | inl here ↦ subst CarryNone (sym here.2) tt
      | inr same ↦ subst CarryNone (sym same) (clean j d)
    ]

-- ---- what a bridge hears

heard_append : (xs ys : Inbox) (v : BridgeView) → heard_all (xs ++ ys) v ≡ heard_all ys (heard_all xs v)
heard_append [] ys v = refl
heard_append (x ∷ xs) ys v = heard_append xs ys (step (frame x.0 x.1) v)

heard_both : (xs ys : Inbox) (o : Option BridgeView) → option_map (heard_all ys) (option_map (heard_all xs) o) ≡ option_map (heard_all (xs ++ ys)) o
heard_both xs ys None = refl
heard_both xs ys (Some v) = ap Some (sym (heard_append xs ys v))

heard_if : (b : Bool) (xs : Inbox) (o : Option BridgeView) → option_map (λ v. if b then heard_all xs v else v) o ≡ option_map (heard_all (if b then xs else [])) o
heard_if true xs o = refl
heard_if false xs o = refl

abbrev ported : ℕ → List Frame → Inbox
ported p frames = map (λ f. (p, f)) frames

-- ---- a frame that carries none is delivered

one_delivered : (s : State) (k : ℕ) (dir : Dir) (l : DeclaredLink) (f : Frame) (behind : List Frame) → lane_at s k dir ≡ f ∷ behind → slice_get (links_of s) k ≡ Some l → is_carrying (parsed f) ≡ false
    → delivered s k dir ≡ record s { lanes = changed_frames rest s.lanes k dir; views = changed_at (step (frame (far_end dir l).port f)) s.views (far_end dir l).bridge }
unfolding delivered
one_delivered s k dir l f behind at there clean =
    let p : ℕ = (far_end dir l).port in
    ap (λ (lane : List Frame). delivered_front s k dir (slice_get lane 0)) at
    ∙ (ap (λ (o : Option DeclaredLink). heard_over (with_frames rest s k dir) dir f o) there
    ∙ silent_step (frame p f) (with_frames rest s k dir) (far_end dir l).bridge (λ v. (control_is_silent v p f clean).0) (λ v. (control_is_silent v p f clean).1))

-- as many as a lane holds
times_delivered : (fs : List Frame) (s : State) (k : ℕ) (dir : Dir) (l : DeclaredLink) → lane_at s k dir ≡ fs → slice_get (links_of s) k ≡ Some l → CarryNone fs
    → delivered_times (length fs) k dir s ≡ record s { lanes = changed_frames emptied s.lanes k dir; views = changed_at (heard_all (ported (far_end dir l).port fs)) s.views (far_end dir l).bridge }
times_delivered [] s k dir l at there clean =
    λ j. record s { lanes = sym (empty_same s.lanes k dir at) j; views = sym (changed_id s.views (far_end dir l).bridge) j }
times_delivered (f ∷ fs) s k dir l at there clean =
    let p : ℕ = (far_end dir l).port in
    let i : ℕ = (far_end dir l).bridge in
    let lanes : List LinkLanes = changed_frames rest s.lanes k dir in
    let views : List BridgeView = changed_at (step (frame p f)) s.views i in
    ap (delivered_times (length fs) k dir) (one_delivered s k dir l f fs at there clean.0)
    ∙ (times_delivered fs (record s { lanes = lanes; views = views }) k dir l (lane_here rest s.lanes k dir refl ∙ ap rest at) there clean.1
    ∙ (λ j. record s { lanes = emptied_twice s.lanes k dir j; views = changed_twice (step (frame p f)) (heard_all (ported p fs)) s.views i j }))

-- ---- a lane, a link, all links

-- what a lane, or a link, that was served leaves
record Serves (s t : State) (k : ℕ) (xs : ℕ → Inbox) : Type 0 where
  world : t.world ≡ s.world
  many : length t.lanes ≡ length s.lanes
  others : (j : ℕ) (dir : Dir) → j ≢ k → lane_of t.lanes j dir ≡ lane_of s.lanes j dir
  views : (i : ℕ) → slice_get t.views i ≡ option_map (heard_all (xs i)) (slice_get s.views i)
  rest : t ≡ record s { views = t.views; lanes = t.lanes }

lane_serves : (s : State) (k : ℕ) (dir : Dir) (l : DeclaredLink) → slice_get (links_of s) k ≡ Some l → CarryNone (lane_at s k dir)
    → (t : State) × (lane_served s k dir ≡ t) × Serves s t k (coming dir l (lane_at s k dir)) × (t.lanes ≡ changed_frames emptied s.lanes k dir)
unfolding lane_served
lane_serves s k dir l there clean =
    let fs : List Frame = lane_at s k dir in
    let g : BridgeView → BridgeView = heard_all (ported (far_end dir l).port fs) in
    let t : State = record s { lanes = changed_frames emptied s.lanes k dir; views = changed_at g s.views (far_end dir l).bridge } in (
      t,
      times_delivered fs s k dir l refl there clean,
      record {
        world = refl;
        many = length-changed (changed_lane dir emptied) s.lanes k;
        others = λ j d apart. lane_away (changed_lane dir emptied) s.lanes k j d apart;
        views = λ i. changed_got g s.views (far_end dir l).bridge i ∙ heard_if ((far_end dir l).bridge == i) (ported (far_end dir l).port fs) (slice_get s.views i);
        rest = refl;
      },
      refl,
    )

record ServesLink (s t : State) (k : ℕ) : Type 0 where
  serves : Serves s t k (coming_over (slice_get (links_of s) k) s.lanes k)
  empty : (dir : Dir) → lane_of t.lanes k dir ≡ []
  clean : HasNoCustomers t.lanes

link_serves : (s : State) (k : ℕ) (l : DeclaredLink) → slice_get (links_of s) k ≡ Some l → HasNoCustomers s.lanes → ServesLink s (link_served s k) k
link_serves s k l there clean =
    let one = lane_serves s k Ab l there (clean k Ab) in
    let t : State = one.0 in
    let clean_t : HasNoCustomers t.lanes = subst HasNoCustomers (sym one.3) (clean_emptied s.lanes k Ab clean) in
    let there_t : slice_get (links_of t) k ≡ Some l = ap (λ (w : World). slice_get (things_of w.links) k) one.2.world ∙ there in
    let two = lane_serves t k Ba l there_t (clean_t k Ba) in
    let u : State = two.0 in
    let way : lane_of t.lanes k Ba ≡ lane_of s.lanes k Ba = ap (λ (ls : List LinkLanes). lane_of ls k Ba) one.3 ∙ other_way emptied s.lanes k in
    let is : link_served s k ≡ u = ap (λ (x : State). lane_served x k Ba) one.1 ∙ two.1 in
    subst (λ (x : State). ServesLink s x k) (sym is) (record {
      serves = record {
        world = two.2.world ∙ one.2.world;
        many = two.2.many ∙ one.2.many;
        others = λ j d apart. two.2.others j d apart ∙ one.2.others j d apart;
        views = λ i. two.2.views i ∙ (ap (option_map (heard_all (coming Ba l (lane_of t.lanes k Ba) i))) (one.2.views i)
            ∙ (heard_both (coming Ab l (lane_of s.lanes k Ab) i) (coming Ba l (lane_of t.lanes k Ba) i) (slice_get s.views i)
            ∙ (ap (λ (lane : List Frame). option_map (heard_all (coming Ab l (lane_of s.lanes k Ab) i ++ coming Ba l lane i)) (slice_get s.views i)) way
            ∙ ap (λ (o : Option DeclaredLink). option_map (heard_all (coming_over o s.lanes k i)) (slice_get s.views i)) (sym there))));
        rest = two.2.rest ∙ ap (λ (x : State). record x { views = u.views; lanes = u.lanes }) one.2.rest;
      };
      empty = λ dir. emptied_both dir t u one.3 two.3;
      clean = subst HasNoCustomers (sym two.3) (clean_emptied t.lanes k Ba clean_t);
    })
  where
    emptied_both : (dir : Dir) (t u : State) → t.lanes ≡ changed_frames emptied s.lanes k Ab → u.lanes ≡ changed_frames emptied t.lanes k Ba → lane_of u.lanes k dir ≡ []
    emptied_both Ab t u one two = ap (λ (ls : List LinkLanes). lane_of ls k Ab) two ∙ (other_back emptied t.lanes k ∙ (ap (λ (ls : List LinkLanes). lane_of ls k Ab) one ∙ lane_here emptied s.lanes k Ab refl))
    emptied_both Ba t u one two = ap (λ (ls : List LinkLanes). lane_of ls k Ba) two ∙ lane_here emptied t.lanes k Ba refl

-- the lanes behind decide what is still to come
inbox_same : (n k : ℕ) (links : List DeclaredLink) (lanes more : List LinkLanes) (i : ℕ) → ((j : ℕ) (dir : Dir) → k ≤ j → lane_of more j dir ≡ lane_of lanes j dir) → inbox_from n k links more i ≡ inbox_from n k links lanes i
inbox_same zero k links lanes more i same = refl
inbox_same (suc n) k links lanes more i same = over (slice_get links k) ∙ ap (λ xs. coming_over (slice_get links k) lanes k i ++ xs) (inbox_same n (k + 1) links lanes more i (λ j dir le. same j dir (omega (arith, le))))
  where
    over : (o : Option DeclaredLink) → (coming_over o more k i ++ inbox_from n (k + 1) links more i) ≡ (coming_over o lanes k i ++ inbox_from n (k + 1) links more i)
    over None = refl
    over (Some l) = λ j. (coming Ab l (same k Ab (omega arith) j) i ++ coming Ba l (same k Ba (omega arith) j) i) ++ inbox_from n (k + 1) links more i

record ServesAll (s t : State) (n k : ℕ) : Type 0 where
  world : t.world ≡ s.world
  before : (j : ℕ) (dir : Dir) → j < k → lane_of t.lanes j dir ≡ lane_of s.lanes j dir
  empty : (j : ℕ) (dir : Dir) → k ≤ j → lane_of t.lanes j dir ≡ []
  views : (i : ℕ) → slice_get t.views i ≡ option_map (heard_all (inbox_from n k (links_of s) s.lanes i)) (slice_get s.views i)
  rest : t ≡ record s { views = t.views; lanes = t.lanes }

all_serve : (n k : ℕ) (s : State) → n + k ≡ length s.lanes → length (links_of s) ≡ length s.lanes → HasNoCustomers s.lanes → ServesAll s (served_from n k s) n k
all_serve zero k s many fits clean = record {
  world = refl;
  before = λ j dir lt. refl;
  empty = λ j dir le. past s.lanes j dir (omega (arith, le, many));
  views = λ i. map_id (slice_get s.views i);
  rest = refl;
}
all_serve (suc n) k s many fits clean =
    let here = got (links_of s) k (omega (arith, many, fits)) in
    let t : State = link_served s k in
    let one : ServesLink s t k = link_serves s k here.0 here.1 clean in
    let u : State = served_from n (k + 1) t in
    let more : ServesAll t (served_from n (k + 1) t) n (k + 1) = all_serve n (k + 1) t (omega (arith, many, one.serves.many)) (ap (λ (w : World). length (things_of w.links)) one.serves.world ∙ (fits ∙ sym one.serves.many)) one.clean in
    record {
      world = more.world ∙ one.serves.world;
      before = λ j dir lt. more.before j dir (omega (arith, lt)) ∙ one.serves.others j dir (λ e. absurd (omega (arith, e, lt)));
      empty = λ j dir le. from j dir le t (served_from n (k + 1) t) one more;
      views = λ i.
          more.views i ∙ (ap (option_map (heard_all (inbox_from n (k + 1) (links_of t) t.lanes i))) (one.serves.views i)
          ∙ (heard_both (coming_over (slice_get (links_of s) k) s.lanes k i) (inbox_from n (k + 1) (links_of t) t.lanes i) (slice_get s.views i)
          ∙ ap (λ (xs : Inbox). option_map (heard_all (coming_over (slice_get (links_of s) k) s.lanes k i ++ xs)) (slice_get s.views i))
          (ap (λ (w : World). inbox_from n (k + 1) (things_of w.links) t.lanes i) one.serves.world
          ∙ inbox_same n (k + 1) (links_of s) s.lanes t.lanes i (λ j dir le. one.serves.others j dir (λ e. absurd (omega (arith, e, le)))))));
      rest = more.rest ∙ ap (λ (x : State). record x { views = u.views; lanes = u.lanes }) one.serves.rest;
    }
  where
    from : (j : ℕ) (dir : Dir) → k ≤ j → (t u : State) → ServesLink s t k → ServesAll t u n (k + 1) → lane_of u.lanes j dir ≡ []
    from j dir le t u one more = by (j == k) refl
      where
        by : (b : Bool) → (j == k) ≡ b → lane_of u.lanes j dir ≡ []
        by true e = let is : j ≡ k = eqb-true j k e in more.before j dir (omega (arith, is)) ∙ (ap (λ (x : ℕ). lane_of t.lanes x dir) is ∙ one.empty dir)
        by false e = more.empty j dir (omega (arith, le, eqb-false j k e))

-- ---- all tick

record TicksFrom (s t : State) (n i : ℕ) : Type 0 where
  world : t.world ≡ s.world
  bridges : length t.views ≡ length s.views
  below : (j : ℕ) → j < i → slice_get t.views j ≡ slice_get s.views j
  within : (j : ℕ) → i ≤ j → j < i + n → slice_get t.views j ≡ option_map (step second) (slice_get s.views j)

here_if : (i j : ℕ) (o : Option BridgeView) → i ≡ j → option_map (λ x. if i == j then step second x else x) o ≡ option_map (step second) o
here_if i j o e = ap (λ (b : Bool). option_map (λ x. if b then step second x else x) o) (eq-eqb i j e)

away_if : (i j : ℕ) (o : Option BridgeView) → i ≢ j → option_map (λ x. if i == j then step second x else x) o ≡ o
away_if i j o apart = by (i == j) refl
  where
    by : (b : Bool) → (i == j) ≡ b → option_map (λ x. if b then step second x else x) o ≡ o
    by true e = absurd (apart (eqb-true i j e))
    by false e = sym (map_id o)

ticks_from : (n i : ℕ) (s : State) → TicksFrom s (ticked_from n i s) n i
ticks_from zero i s = record { world = refl; bridges = refl; below = λ j lt. refl; within = λ j le lt. absurd (omega (arith, le, lt)) }
ticks_from (suc n) i s =
    let t : State = ticked s i in
    let views : t.views ≡ changed_at (step second) s.views i = stepped_views second s i in
    let more : TicksFrom t (ticked_from n (i + 1) t) n (i + 1) = ticks_from n (i + 1) t in
    let at : (j : ℕ) → slice_get t.views j ≡ option_map (λ x. if i == j then step second x else x) (slice_get s.views j) = λ j. ap (λ (vs : List BridgeView). slice_get vs j) views ∙ changed_got (step second) s.views i j in
    record {
      world = more.world ∙ stepped_world second s i;
      bridges = more.bridges ∙ (ap (λ (vs : List BridgeView). length vs) views ∙ length-changed (step second) s.views i);
      below = λ j lt. more.below j (omega (arith, lt)) ∙ (at j ∙ away_if i j (slice_get s.views j) (λ e. absurd (omega (arith, e, lt))));
      within = λ j le lt. from j le lt at more;
    }
  where
    from : (j : ℕ) → i ≤ j → j < i + suc n → ((j : ℕ) → slice_get (ticked s i).views j ≡ option_map (λ x. if i == j then step second x else x) (slice_get s.views j)) → TicksFrom (ticked s i) (ticked_from n (i + 1) (ticked s i)) n (i + 1)
        → slice_get (ticked_from n (i + 1) (ticked s i)).views j ≡ option_map (step second) (slice_get s.views j)
    from j le lt at more = by (i == j) refl
      where
        by : (b : Bool) → (i == j) ≡ b → slice_get (ticked_from n (i + 1) (ticked s i)).views j ≡ option_map (step second) (slice_get s.views j)
        by true e = let is : i ≡ j = eqb-true i j e in more.below j (omega (arith, is)) ∙ (at j ∙ here_if i j (slice_get s.views j) is)
        by false e = let apart : i ≢ j = eqb-false i j e in
            more.within j (omega (arith, le, apart)) (omega (arith, lt)) ∙ ap (option_map (step second)) (at j ∙ away_if i j (slice_get s.views j) apart)

-- after all ticks each bridge is a second later
pub all_tick : (s : State) (j : ℕ) → slice_get (all_ticked s).views j ≡ option_map (step second) (slice_get s.views j)
all_tick s j =
    let all : TicksFrom s (all_ticked s) (length s.views) 0 = ticks_from (length s.views) 0 s in
    by (nat_lt j (length s.views)) refl all
  where
    by : (b : Bool) → nat_lt j (length s.views) ≡ b → TicksFrom s (all_ticked s) (length s.views) 0 → slice_get (all_ticked s).views j ≡ option_map (step second) (slice_get s.views j)
    by true e all = let low : j < length s.views = ltb-true j (length s.views) e in all.within j (omega arith) (omega (arith, low))
    by false e all =
        let le : length s.views ≤ j = ltb-false j (length s.views) e in
        none_past (all_ticked s).views j (omega (arith, le, all.bridges)) ∙ ap (option_map (step second)) (sym (none_past s.views j le))

pub all_tick_world : (s : State) → (all_ticked s).world ≡ s.world
all_tick_world s = let all : TicksFrom s (all_ticked s) (length s.views) 0 = ticks_from (length s.views) 0 s in all.world

-- and what they sent carries none
clean_ticks : (n i : ℕ) (s : State) → HasNoCustomers s.lanes → HasNoCustomers (ticked_from n i s).lanes
clean_ticks zero i s clean = clean
clean_ticks (suc n) i s clean =
    clean_ticks n (i + 1) (ticked s i)
    (stepped_each (λ bytes. is_carrying (parsed bytes) ≡ false) second s i clean (λ v at. second_carries_none v))

-- ---- a round

served : (s : State) → IsSoundState s → HasNoCustomers s.lanes → ServesAll (all_ticked s) (one_round s) (length (all_ticked s).lanes) 0
unfolding one_round
served s sound clean =
    let t : State = all_ticked s in
    let many : length t.lanes ≡ length s.lanes = (alike_ticked_from (length s.views) 0 s).lanes in
    let fits : length (links_of s) ≡ length s.lanes = length-things s.world.links ∙ sym sound.fits.lanes in
    all_serve (length t.lanes) 0 t (omega arith) (ap (λ (w : World). length (things_of w.links)) (all_tick_world s) ∙ (fits ∙ sym many)) (clean_ticks (length s.views) 0 s clean)

pub rounds_are_heard : RoundsAreHeard
rounds_are_heard s sound clean =
    let t : State = all_ticked s in
    let world : t.world ≡ s.world = all_tick_world s in
    let all : ServesAll t (one_round s) (length t.lanes) 0 = served s sound clean in
    record {
      world = all.world ∙ world;
      lanes = λ k dir. all.empty k dir (omega arith);
      views = λ i. all.views i ∙ (ap (λ (w : World). option_map (heard_all (inbox (things_of w.links) t.lanes i)) (slice_get t.views i)) world
          ∙ (ap (option_map (heard_all (inbox (links_of s) t.lanes i))) (all_tick s i)
          ∙ map_twice (step second) (heard_all (inbox (links_of s) t.lanes i)) (slice_get s.views i)));
    }

-- after the ticks it changes bridges and lanes alone
pub served_rest : (s : State) → IsSoundState s → HasNoCustomers s.lanes → one_round s ≡ record (all_ticked s) { views = (one_round s).views; lanes = (one_round s).lanes }
served_rest s sound clean = (served s sound clean).rest
