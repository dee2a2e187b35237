-- The customers' frames that leave when something comes to a bridge, by the name of the bridge.
use Rattle.std.proofs.Common.{◌≡◌, ◌≢◌, ◌+◌, ℕ, zero, suc, Bool, true, false, cond, List, [], ◌∷◌, ◌++◌, refl, sym, ap, ◌∙◌, subst, Option, Some, None, slice_get, arith}
use Rattle.std.specs.Prelude.{if◌then◌else◌}
use Rattle.std.specs.List.{AllByRecursion, position_from}
use Rattle.std.specs.Option.{option_map_or}
use Rattle.std.specs.Str.{bytes_eq}
use Rattle.std.proofs.lemmas.Iterator.Adapters.{position_from-zero}
use Rattle.std.proofs.lemmas.Slice.Eq.{bytes_eq-Decides}
use Rattle.link_model.specs.Lane.{Frame, pushed}
use Rattle.link_model.specs.declared.lanes.LaneId.{LaneId}
use Rattle.spb_types.specs.Places.{changed_at}
use Rattle.spb_types.specs.declared.service.Isid.{Isid}
use Rattle.spb_types.specs.declared.service.Attachment.{Attachment}
use Rattle.forwarding.specs.Laws.{IsAttachedTo}
use Rattle.bridge_api.specs.View.{BridgeView}
use Rattle.bridge_api.specs.Config.{ArePairwise}
use Rattle.bridge_laws.specs.Apart.{LeavesEntered}
use Rattle.bridge_api.specs.Step.{Input, step, sent, left_by}
use Rattle.network_model.specs.declared.answer.Out.{Out}
use Rattle.spb_world.specs.World.{World, names_of, place_of, attached_at}
use Rattle.network_model.specs.State.{State, links_of, with_frames}
use Rattle.spb_world.specs.Links.{is_live, lane_out}
use Rattle.network_model.specs.Events.{sent_over, sent_all, outs_at, stepped}
use Rattle.network_model.specs.Isolation.{LeftEntered}
use Rattle.spb_world.proofs.BoxLemmas.{All-get}
use Rattle.network_model.proofs.SoundLane.{some-is}
use Rattle.network_model.proofs.SoundSteps.{world-sent_all}

-- ---- what a step adds

outs-sent_over : (s : State) (lane : Option LaneId) (x : Frame) → (sent_over s lane x).outs ≡ s.outs
outs-sent_over s None x = refl
outs-sent_over s (Some lane) x = by (is_live (links_of s) lane.link)
  where
    by : (live : Bool) → (if live then with_frames (λ frames. pushed frames x) s lane.link lane.dir else s).outs ≡ s.outs
    by true = refl
    by false = refl

outs-sent_all : (s : State) (i : ℕ) (fs : List (ℕ × Frame)) → (sent_all s i fs).outs ≡ s.outs
outs-sent_all s i [] = refl
outs-sent_all s i (x ∷ fs) = outs-sent_all (sent_over s (lane_out (links_of s) i x.0) x.1) i fs ∙ outs-sent_over s (lane_out (links_of s) i x.0) x.1

-- what left, and what leaves the bridge
pub stepped_outs : (x : Input) (s : State) (i : ℕ) → (stepped x s i).outs ≡ s.outs ++ outs_at (slice_get (names_of s.world.bridges) i) (option_map_or (left_by x) (slice_get s.views i) [])
unfolding stepped
stepped_outs x s i =
    let next : State = record s { views = changed_at (step x) s.views i } in
    let fs : List (ℕ × Frame) = option_map_or (sent x) (slice_get s.views i) [] in
    let lefts : List (ℕ × Frame) = option_map_or (left_by x) (slice_get s.views i) [] in
    λ j. outs-sent_all next i fs j ++ outs_at (slice_get (names_of (world-sent_all next i fs j).bridges) i) lefts

All-append : {X : Type 0} (P : X → Type 0) (xs ys : List X) → AllByRecursion P xs → AllByRecursion P ys → AllByRecursion P (xs ++ ys)
All-append P [] ys first second = second
All-append P (x ∷ xs) ys first second = (first.0, All-append P xs ys first.1 second)

-- nothing leaves
pub none_left : (P : Out → Type 0) (o : Option (List ℕ)) → AllByRecursion P (outs_at o [])
none_left P None = tt
none_left P (Some name) = tt

found_left : (P : Out → Type 0) (x : Input) (name : Option (List ℕ)) (o : Option BridgeView) → ((v : BridgeView) → o ≡ Some v → AllByRecursion P (outs_at name (left_by x v))) → AllByRecursion P (outs_at name (option_map_or (left_by x) o []))
found_left P x name None each = none_left P name
found_left P x name (Some v) each = each v refl

-- what holds of each frame that left before, and of each that leaves the bridge, holds of each afterwards
pub outs_each : (P : Out → Type 0) (x : Input) (s : State) (i : ℕ) → AllByRecursion P s.outs → ((v : BridgeView) → slice_get s.views i ≡ Some v → AllByRecursion P (outs_at (slice_get (names_of s.world.bridges) i) (left_by x v))) → AllByRecursion P (stepped x s i).outs
outs_each P x s i before new =
    let name : Option (List ℕ) = slice_get (names_of s.world.bridges) i in
    subst (AllByRecursion P) (sym (stepped_outs x s i))
    (All-append P s.outs (outs_at name (option_map_or (left_by x) (slice_get s.views i) [])) before (found_left P x name (slice_get s.views i) new))

-- ---- the bridge of a name

found_first : (b : Bool) (k : ℕ) (o : Option ℕ) → b ≡ true → cond b (Some k) o ≡ Some k
found_first true k o is = refl
found_first false k o is = absurd cc

found_later : (b : Bool) (k : ℕ) (o : Option ℕ) → (b ≡ true → ⊥) → cond b (Some k) o ≡ o
found_later true k o not = absurd (not refl)
found_later false k o not = refl

name_stands : (names : List (List ℕ)) (i k : ℕ) (name : List ℕ) → ArePairwise (λ x y. x ≢ y) names → slice_get names i ≡ Some name → position_from (bytes_eq name) k names ≡ Some (k + i)
name_stands [] i k name apart at = absurd cc
name_stands (n ∷ names) zero k name apart at =
    found_first (bytes_eq name n) k (position_from (bytes_eq name) (k + 1) names) ((bytes_eq-Decides name n).1 (sym (some-is n name at)))
    ∙ ap (λ (j : ℕ). Some j) (omega arith)
name_stands (n ∷ names) (suc i) k name apart at =
    let other : n ≢ name = All-get (λ m. n ≢ m) names i name apart.0 at in
    found_later (bytes_eq name n) k (position_from (bytes_eq name) (k + 1) names) (λ is. other (sym ((bytes_eq-Decides name n).0 is)))
    ∙ (name_stands names i (k + 1) name apart.1 at
    ∙ ap (λ (j : ℕ). Some j) (omega arith))

-- no two bridges have one name, so each is found by its own
pub place_named : (w : World) (i : ℕ) (name : List ℕ) → ArePairwise (λ x y. x ≢ y) (names_of w.bridges) → slice_get (names_of w.bridges) i ≡ Some name → place_of name w.bridges ≡ Some i
place_named w i name apart at =
    position_from-zero (bytes_eq name) (names_of w.bridges)
    ∙ (name_stands (names_of w.bridges) i 0 name apart at
    ∙ ap (λ (j : ℕ). Some j) (omega arith))

-- ---- what leaves has entered

module _ (w : World) (Entered : Isid → List ℕ → Type 0) (v : BridgeView) (i : ℕ) (same : v.attached ≡ attached_at w i) where
  left_named : (name : List ℕ) (fs : List (ℕ × Frame)) → place_of name w.bridges ≡ Some i → AllByRecursion (λ f. LeavesEntered Entered v f.0 f.1) fs → AllByRecursion (LeftEntered w Entered) (outs_at (Some name) fs)
  left_named name [] named leave = tt
  left_named name (f ∷ fs) named leave =
      let here : LeavesEntered Entered v f.0 f.1 = leave.0 in (
        record {
          isid = here.isid;
          attached = record { place = i; named = named; attached = subst (λ (attached : List Attachment). IsAttachedTo attached f.0 here.isid) same here.attached };
          entered = here.entered;
        },
        left_named name fs named leave.1,
      )

  pub left_each : (o : Option (List ℕ)) (fs : List (ℕ × Frame)) → ArePairwise (λ x y. x ≢ y) (names_of w.bridges) → slice_get (names_of w.bridges) i ≡ o → AllByRecursion (λ f. LeavesEntered Entered v f.0 f.1) fs → AllByRecursion (LeftEntered w Entered) (outs_at o fs)
  left_each None fs apart at leave = tt
  left_each (Some name) fs apart at leave = left_named name fs (place_named w i name apart at) leave
