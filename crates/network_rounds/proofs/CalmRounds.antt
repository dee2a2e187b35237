-- Rounds that pass in calm: the first leaves each bridge a second older, and so on.
use Rattle.std.proofs.Common.{◌≡◌, ℕ, zero, suc, ◌+◌, ◌-◌, List, [], ◌∷◌, length, map, refl, sym, ap, ◌∙◌, subst, Option, Some, None, slice_get, arith}
use Rattle.std.specs.List.{AllByRecursion}
use Rattle.std.specs.Option.{option_map}
use Rattle.std.proofs.lemmas.List.{length-map}
use Rattle.std.proofs.lemmas.Option.{same_Some}
use Rattle.spb_types.specs.declared.link.Dir.{Dir}
use Rattle.spb_types.specs.declared.link.Dir.TheVariants.{Ab, Ba}
use Rattle.link_model.specs.Lanes.{lane_of}
use Rattle.link_model.specs.declared.lanes.LinkLanes.{LinkLanes}
use Rattle.bridge_api.specs.View.{BridgeView}
use Rattle.bridge_api.specs.Calm.{IsCalmFor, aged_by}
use Rattle.bridge_rounds.specs.Inbox.{after_round}
use Rattle.bridge_rounds.specs.Calm.{CalmRoundAges, CalmSecondGreets, CalmGoesOn, AgesAdd}
use Rattle.spb_world.proofs.BoxLemmas.{All-get}
use Rattle.network_model.specs.State.{State}
use Rattle.network_model.specs.Events.{one_round, rounds}
use Rattle.network_model.specs.Sound.{IsSoundState}
use Rattle.network_model.proofs.FitsLemmas.{alike_one_round}
use Rattle.network_model.proofs.SoundEvents.{Sound-one_round}
use Rattle.network_rounds.specs.Calm.{AreCalmFor, ticks_after, passed_by, CalmRoundsPass}
use Rattle.network_rounds.specs.Rounds.{IsHeardRound}
use Rattle.network_rounds.specs.Steady.{inbox_of}
use Rattle.network_rounds.proofs.CalmGreeted.{is_greeted}
use Rattle.network_rounds.proofs.CalmRest.{round_rest}
use Rattle.network_rounds.proofs.Heard.{rounds_are_heard}
use Rattle.network_rounds.proofs.Passing.{sound_at, empty_plain}

-- ---- lists by place

same_places : {X : Type 0} (xs ys : List X) → ((i : ℕ) → slice_get xs i ≡ slice_get ys i) → xs ≡ ys
same_places [] [] same = refl
same_places [] (y ∷ ys) same = absurd (none_some (same 0))
  where
    none_some : None ≡ Some y → ⊥
    none_some e = cc
same_places (x ∷ xs) [] same = absurd (some_none (same 0))
  where
    some_none : Some x ≡ None → ⊥
    some_none e = cc
same_places (x ∷ xs) (y ∷ ys) same = λ j. same_Some x y (same 0) j ∷ same_places xs ys (λ i. same (suc i)) j

place_mapped : {X Y : Type 0} (f : X → Y) (xs : List X) (i : ℕ) → slice_get (map f xs) i ≡ option_map f (slice_get xs i)
place_mapped f [] i = refl
place_mapped f (x ∷ xs) zero = refl
place_mapped f (x ∷ xs) (suc i) = place_mapped f xs i

same_empty : (x y : LinkLanes) → x.ab ≡ y.ab → x.ba ≡ y.ba → x ≡ y
same_empty x y ab ba = λ j. record { ab = ab j; ba = ba j }

all_empty : (xs ys : List LinkLanes) → length xs ≡ length ys → ((k : ℕ) (dir : Dir) → lane_of xs k dir ≡ lane_of ys k dir) → xs ≡ ys
all_empty [] [] many same = refl
all_empty [] (y ∷ ys) many same = absurd (omega (arith, many))
all_empty (x ∷ xs) [] many same = absurd (omega (arith, many))
all_empty (x ∷ xs) (y ∷ ys) many same = λ j. same_empty x y (same 0 Ab) (same 0 Ba) j ∷ all_empty xs ys (omega (arith, many)) (λ k dir. same (suc k) dir) j

-- ---- one round

module _ (ages : CalmRoundAges) (greets : CalmSecondGreets) (s : State) (sound : IsSoundState s) (calm : AreCalmFor 1 s) where
  heard : IsHeardRound s (one_round s)
  heard = rounds_are_heard s sound (empty_plain s calm.empty)

  calm_at : (i : ℕ) (v : BridgeView) → slice_get s.views i ≡ Some v → IsCalmFor 1 v
  calm_at i v at = All-get (IsCalmFor 1) s.views i v calm.bridges at

  view_after : (i : ℕ) (o : Option BridgeView) → slice_get s.views i ≡ o → option_map (after_round (inbox_of s i)) o ≡ option_map (aged_by 1) o
  view_after i None at = refl
  view_after i (Some v) at = ap Some (ages v (inbox_of s i) (sound_at s sound i v at) (calm_at i v at) (is_greeted greets s sound calm.empty calm_at i v at))

  views_after : (one_round s).views ≡ map (aged_by 1) s.views
  views_after = same_places (one_round s).views (map (aged_by 1) s.views) (λ i. heard.views i ∙ (view_after i (slice_get s.views i) refl ∙ sym (place_mapped (aged_by 1) s.views i)))

  lanes_after : (one_round s).lanes ≡ s.lanes
  lanes_after = all_empty (one_round s).lanes s.lanes (alike_one_round s).lanes (λ k dir. heard.lanes k dir ∙ sym (calm.empty k dir))

  one_passes : one_round s ≡ passed_by 1 s
  one_passes =
      round_rest s sound (empty_plain s calm.empty) calm.counted
      ∙ (λ j. record s { views = views_after j; lanes = lanes_after j; ticks = map (ticks_after 1) s.ticks })

-- ---- one after another

ticks_add : (j k : ℕ) (ticks : List ℕ) → map (ticks_after k) (map (ticks_after j) ticks) ≡ map (ticks_after (j + k)) ticks
ticks_add j k [] = refl
ticks_add j k (n ∷ ticks) =
    let first : ticks_after k (ticks_after j n) ≡ ticks_after (j + k) n = omega arith in
    λ i. first i ∷ ticks_add j k ticks i

module _ (goes_on : CalmGoesOn) (add : AgesAdd) where
  views_add : (j k : ℕ) (views : List BridgeView) → map (aged_by k) (map (aged_by j) views) ≡ map (aged_by (j + k)) views
  views_add j k [] = refl
  views_add j k (v ∷ views) = λ i. add v j k i ∷ views_add j k views i

  passes_add : (j k : ℕ) (s : State) → passed_by k (passed_by j s) ≡ passed_by (j + k) s
  passes_add j k s = λ i. record s { views = views_add j k s.views i; ticks = ticks_add j k s.ticks i }

  firsts_calm : (j k : ℕ) (views : List BridgeView) → AllByRecursion (IsCalmFor (j + k)) views → AllByRecursion (IsCalmFor j) views
  firsts_calm j k [] all = tt
  firsts_calm j k (v ∷ views) all = ((goes_on v j k all.0).0, firsts_calm j k views all.1)

  others_calm : (j k : ℕ) (views : List BridgeView) → AllByRecursion (IsCalmFor (j + k)) views → AllByRecursion (IsCalmFor k) (map (aged_by j) views)
  others_calm j k [] all = tt
  others_calm j k (v ∷ views) all = ((goes_on v j k all.0).1, others_calm j k views all.1)

  first_calm : (j k : ℕ) (s : State) → AreCalmFor (j + k) s → AreCalmFor j s
  first_calm j k s calm = record { empty = calm.empty; bridges = firsts_calm j k s.views calm.bridges; counted = calm.counted }

  other_calm : (j k : ℕ) (s : State) → AreCalmFor (j + k) s → AreCalmFor k (passed_by j s)
  other_calm j k s calm = record {
    empty = calm.empty;
    bridges = others_calm j k s.views calm.bridges;
    counted = length-map s.ticks (ticks_after j) ∙ (calm.counted ∙ sym (length-map s.views (aged_by j)));
  }

  module _ (ages : CalmRoundAges) (greets : CalmSecondGreets) where
    all_pass : (n : ℕ) (s : State) → IsSoundState s → AreCalmFor (suc n) s → rounds (suc n) s ≡ passed_by (suc n) s
    all_pass zero s sound calm = one_passes ages greets s sound calm
    all_pass (suc n) s sound calm =
        let whole : suc (suc n) ≡ 1 + suc n = omega arith in
        let parts : AreCalmFor (1 + suc n) s = subst (λ (m : ℕ). AreCalmFor m s) whole calm in
        let one : one_round s ≡ passed_by 1 s = one_passes ages greets s sound (first_calm 1 (suc n) s parts) in
        ap (rounds (suc n)) one
        ∙ (all_pass n (passed_by 1 s) (subst IsSoundState one (Sound-one_round s sound)) (other_calm 1 (suc n) s parts)
        ∙ (passes_add 1 (suc n) s ∙ ap (λ (m : ℕ). passed_by m s) (sym whole)))

pub calm_rounds_pass : CalmRoundAges → CalmSecondGreets → CalmGoesOn → AgesAdd → CalmRoundsPass
calm_rounds_pass ages greets goes_on add n s some sound calm =
    let whole : n ≡ suc (n - 1) = omega (arith, some) in
    subst (λ (m : ℕ). rounds m s ≡ passed_by m s) (sym whole) (all_pass goes_on add ages greets (n - 1) s sound (subst (λ (m : ℕ). AreCalmFor m s) whole calm))
