-- One bridge steps, or frames are lost: what is on its way still has entered, and what is learned at a customer port is
-- learned at one of the service.
use Rattle.std.proofs.Common.{◌≡◌, inl, inr, ℕ, List, [], sym, ap, ◌∙◌, subst, Some, slice_get}
use Rattle.std.specs.List.{AllByRecursion}
use Rattle.link_model.specs.Lane.{Frame, IsIn}
use Rattle.link_model.specs.Lanes.{lane_of}
use Rattle.link_model.specs.declared.lanes.LinkLanes.{LinkLanes}
use Rattle.spb_types.specs.Places.{changed_at}
use Rattle.spb_types.specs.declared.link.Dir.{Dir}
use Rattle.spb_types.specs.declared.service.Isid.{Isid}
use Rattle.forwarding.specs.Placed.{ArePlaced}
use Rattle.bridge_api.specs.View.{BridgeView}
use Rattle.bridge_api.specs.Customers.{tenant_of}
use Rattle.bridge_laws.specs.Apart.{CarriesEntered, Brings}
use Rattle.bridge_api.specs.Step.{Input, step, sent, left_by}
use Rattle.bridge_api.specs.Laws.{IsSoundView}
use Rattle.network_model.specs.declared.answer.Out.{Out}
use Rattle.spb_world.specs.World.{World, names_of}
use Rattle.network_model.specs.State.{State}
use Rattle.network_model.specs.Events.{outs_at, stepped}
use Rattle.network_model.specs.Sound.{IsSoundState}
use Rattle.network_model.specs.Isolation.{IsApart}
use Rattle.spb_world.proofs.ListLemmas.{All-map}
use Rattle.spb_world.proofs.BoxLemmas.{All-get}
use Rattle.network_model.proofs.BridgeLaws.{steps_stay_sound}
use Rattle.network_model.proofs.ApartBridge.{sent_has_entered, steps_keep_places}
use Rattle.network_model.proofs.SoundLane.{All-in, All-from}
use Rattle.network_model.proofs.SoundSteps.{IsInputAt}
use Rattle.network_model.proofs.SoundCarrier.{got_changed}
use Rattle.network_model.proofs.SoundEvents.{stepped_views}
use Rattle.network_model.proofs.ApartLanes.{HoldsOnTheWay, stepped_each}
use Rattle.network_model.proofs.ApartOuts.{none_left, outs_each}

-- a bridge is sound by itself, and what it has learned at customer ports it has learned at ports of the service
pub record IsSoundAndPlaced (v : BridgeView) : Type 0 where
  pub sound : IsSoundView v
  pub placed : ArePlaced (tenant_of v)

-- what carries no other frames than one word says, carries none but another says
pub carries_more : (P Q : Isid → List ℕ → Type 0) → ((isid : Isid) (f : List ℕ) → P isid f → Q isid f) → (bytes : List ℕ) → CarriesEntered P bytes → CarriesEntered Q bytes
carries_more P Q more bytes carries da sa vid isid f is = more isid f (carries da sa vid isid f is)

sound_and_placed_step : (x : Input) (views : List BridgeView) (i : ℕ) → IsInputAt views i x → ((j : ℕ) (v : BridgeView) → slice_get views j ≡ Some v → IsSoundAndPlaced v) → (j : ℕ) (v : BridgeView) → slice_get (changed_at (step x) views i) j ≡ Some v → IsSoundAndPlaced v
sound_and_placed_step x views i input each_was j v at =
    let was = got_changed (step x) views i j v at in
    let before : IsSoundAndPlaced was.was = each_was j was.was was.there in
    elim was.is [
      | inl here ↦
          let there : slice_get views i ≡ Some was.was = ap (slice_get views) (sym here.0) ∙ was.there in
          subst IsSoundAndPlaced (sym here.1) (record {
            sound = steps_stay_sound x was.was (input was.was there) before.sound;
            placed = steps_keep_places x was.was before.sound before.placed;
          })
      | inr same ↦ subst IsSoundAndPlaced (sym same.1) before
    ]

-- for any word that says of a frame that it has entered, and any that says something of one that leaves
module _ (Entered : Isid → List ℕ → Type 0) (Left : Out → Type 0) where
  -- each bridge is sound and placed, each frame on its way carries what has entered, and of each that left this is said
  pub record IsSeparate (s : State) : Type 0 where
    pub lanes : HoldsOnTheWay (CarriesEntered Entered) s.lanes
    pub bridges : (i : ℕ) (v : BridgeView) → slice_get s.views i ≡ Some v → IsSoundAndPlaced v
    pub outs : AllByRecursion Left s.outs

  pub separate_of : (s : State) → IsSoundState s → s.outs ≡ [] → IsApart Entered s → IsSeparate s
  separate_of s sound none apart = record {
    lanes = apart.lanes;
    bridges = λ i v at. record { sound = All-get IsSoundView s.views i v sound.views at; placed = apart.places i v at };
    outs = subst (AllByRecursion Left) (sym none) tt;
  }

  pub apart_of : (s : State) → IsSeparate s → IsApart Entered s
  apart_of s separate = record { lanes = separate.lanes; places = λ i v at. (separate.bridges i v at).placed }

  -- what is declared doesn't matter
  pub separate_with_world : (w : World) (s : State) → IsSeparate s → IsSeparate (record s { world = w })
  separate_with_world w s separate = record { lanes = separate.lanes; bridges = separate.bridges; outs = separate.outs }

  -- frames are lost, doubled or taken
  pub separate_fewer : (s : State) (lanes : List LinkLanes) → IsSeparate s → ((k : ℕ) (dir : Dir) (f : Frame) → IsIn f (lane_of lanes k dir) → IsIn f (lane_of s.lanes k dir)) → IsSeparate (record s { lanes = lanes })
  separate_fewer s lanes separate fewer = record {
    lanes = λ k dir. All-from (CarriesEntered Entered) (lane_of lanes k dir) (λ f among. All-in (CarriesEntered Entered) (lane_of s.lanes k dir) f (separate.lanes k dir) (fewer k dir f among));
    bridges = separate.bridges;
    outs = separate.outs;
  }

  -- what comes to the bridge at a place, if there is one, is an input of it, and brings what has entered; and this is said
  -- of what leaves then
  pub record IsBrought (s : State) (i : ℕ) (x : Input) : Type 0 where
    pub input : IsInputAt s.views i x
    pub entered : (v : BridgeView) → slice_get s.views i ≡ Some v → (isid : Isid) (f : List ℕ) → Brings v x isid f → Entered isid f
    pub left : (v : BridgeView) → slice_get s.views i ≡ Some v → AllByRecursion Left (outs_at (slice_get (names_of s.world.bridges) i) (left_by x v))

  -- where nothing is brought and nothing leaves
  pub brought_none : (s : State) (i : ℕ) (x : Input) → IsInputAt s.views i x → ((v : BridgeView) (isid : Isid) (f : List ℕ) → Brings v x isid f → ⊥) → ((v : BridgeView) → left_by x v ≡ []) → IsBrought s i x
  brought_none s i x input nothing stays = record {
    input = input;
    entered = λ v at isid f brings. absurd (nothing v isid f brings);
    left = λ v at. subst (λ (fs : List (ℕ × Frame)). AllByRecursion Left (outs_at (slice_get (names_of s.world.bridges) i) fs)) (sym (stays v)) (none_left Left (slice_get (names_of s.world.bridges) i));
  }

  sends : (s : State) (i : ℕ) (x : Input) → IsBrought s i x → IsSeparate s → (v : BridgeView) → slice_get s.views i ≡ Some v → AllByRecursion (λ f. CarriesEntered Entered f.1) (sent x v)
  sends s i x brought separate v at =
      All-map (λ f. CarriesEntered (Brings v x) f.1) (λ f. CarriesEntered Entered f.1) (sent x v)
      (λ f carries. carries_more (Brings v x) Entered (brought.entered v at) f.1 carries)
      (sent_has_entered x v (brought.input v at) (separate.bridges i v at).sound)

  pub separate_stepped : (s : State) (i : ℕ) (x : Input) → IsBrought s i x → IsSeparate s → IsSeparate (stepped x s i)
  separate_stepped s i x brought separate = record {
    lanes = stepped_each (CarriesEntered Entered) x s i separate.lanes (sends s i x brought separate);
    bridges = subst (λ (vs : List BridgeView). (j : ℕ) (v : BridgeView) → slice_get vs j ≡ Some v → IsSoundAndPlaced v) (sym (stepped_views x s i)) (sound_and_placed_step x s.views i brought.input separate.bridges);
    outs = outs_each Left x s i separate.outs brought.left;
  }
