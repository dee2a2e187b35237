-- A tick, a delivery, a round, a drain, and a customer's frame that enters: whatever leaves has entered.
use Rattle.std.proofs.Common.{◌≡◌, ◌≢◌, inl, inr, ◌+◌, ℕ, zero, suc, true, false, eqb, eqb-true, List, [], ◌∷◌, length, refl, sym, ap, ◌∙◌, subst, Option, Some, None, slice_get}
use Rattle.std.specs.List.{AllByRecursion}
use Rattle.link_model.specs.Lane.{Frame, IsIn}
use Rattle.link_model.specs.Lanes.{changed_lane, rest, lane_of, first_full_from}
use Rattle.link_model.specs.declared.lanes.LaneId.{LaneId}
use Rattle.link_model.specs.declared.lanes.LinkLanes.{LinkLanes}
use Rattle.spb_types.specs.Places.{changed_at}
use Rattle.spb_types.specs.declared.link.Dir.{Dir}
use Rattle.spb_types.specs.declared.link.Dir.TheVariants.{Ab, Ba}
use Rattle.spb_types.specs.declared.service.Isid.{Isid}
use Rattle.spb_types.specs.declared.service.Attachment.{Attachment}
use Rattle.forwarding.specs.Ports.{attachment_of}
use Rattle.forwarding.specs.Laws.{IsAttachedTo}
use Rattle.bridge_api.specs.View.{BridgeView}
use Rattle.bridge_api.specs.Config.{ArePairwise}
use Rattle.bridge_laws.specs.Apart.{CarriesEntered, Brings, LeavesEntered}
use Rattle.bridge_api.specs.Step as comes
use Rattle.bridge_api.specs.Step.{Input, left_by}
use Rattle.spb_world.specs.declared.declaration.DeclaredLink.{DeclaredLink}
use Rattle.spb_world.specs.World.{World, names_of}
use Rattle.network_model.specs.State.{State, links_of, lane_at, with_frames}
use Rattle.spb_world.specs.Links.{far_end}
use Rattle.network_model.specs.Events.{outs_at, stepped, ticked, heard_over, delivered_front, delivered, ticked_from, delivered_times, lane_served, served_from, one_round, rounds, delivered_over, delivered_first, drained}
use Rattle.network_model.specs.Sound.{AreAttached}
use Rattle.network_model.specs.Isolation.{LeftEntered}
use Rattle.spb_world.proofs.ListLemmas.{All-map}
use Rattle.network_model.proofs.ApartBridge.{left_has_entered}
use Rattle.network_model.proofs.SoundLane.{All-in}
use Rattle.network_model.proofs.SoundSteps.{in_got, IsInputAt}
use Rattle.network_model.proofs.SoundAttached.{is_service, attached_stepped}
use Rattle.network_model.proofs.SoundEvents.{stepped_world, stepped_views, fewer_rest}
use Rattle.network_model.proofs.ApartOuts.{left_each}
use Rattle.network_model.proofs.ApartSteps.{IsSeparate, IsBrought, separate_fewer, separate_stepped}

-- where a port is found attached, it is attached to that I-SID
pub attached_to : (port : ℕ) (attached : List Attachment) (a : Attachment) → attachment_of port attached ≡ Some a → IsAttachedTo attached port a.isid
attached_to port [] a found = absurd cc
attached_to port (b ∷ attached) a found = (elim (eqb b.port port) as (λ c. eqb b.port port ≡ c → IsAttachedTo (b ∷ attached) port a.isid) [
  | true ↦ λ t. let e = rw t at found in let same : b ≡ a = cc in inl (eqb-true b.port port t, ap (λ (x : Attachment). x.isid) same)
  | false ↦ λ t. inr (attached_to port attached a (rw t at found))
]) refl

leaves_more : (P Q : Isid → List ℕ → Type 0) (v : BridgeView) → ((isid : Isid) (f : List ℕ) → P isid f → Q isid f) → (s : ℕ × List ℕ) → LeavesEntered P v s.0 s.1 → LeavesEntered Q v s.0 s.1
leaves_more P Q v more s leaves = record { isid = leaves.isid; attached = leaves.attached; entered = more leaves.isid s.1 leaves.entered }

-- this is still what is declared, services are apart, and what left has entered
pub record IsLeaving (w : World) (Entered : Isid → List ℕ → Type 0) (s : State) : Type 0 where
  pub world : s.world ≡ w
  pub attached : AreAttached w s.views
  pub separate : IsSeparate Entered (LeftEntered w Entered) s

-- for any word that says of a frame that it has entered, where no two bridges have one name
module _ (w : World) (Entered : Isid → List ℕ → Type 0) (apart : ArePairwise (λ x y. x ≢ y) (names_of w.bridges)) where
  left : (s : State) (i : ℕ) (x : Input) → IsLeaving w Entered s → ((v : BridgeView) → slice_get s.views i ≡ Some v → (isid : Isid) (f : List ℕ) → Brings v x isid f → Entered isid f) → (v : BridgeView) → slice_get s.views i ≡ Some v → AllByRecursion (LeftEntered w Entered) (outs_at (slice_get (names_of s.world.bridges) i) (left_by x v))
  left s i x leaving entered v at =
      left_each w Entered v i (leaving.attached i v at) (slice_get (names_of s.world.bridges) i) (left_by x v) apart (ap (λ (u : World). slice_get (names_of u.bridges) i) (sym leaving.world))
      (All-map (λ f. LeavesEntered (Brings v x) v f.0 f.1) (λ f. LeavesEntered Entered v f.0 f.1) (left_by x v) (leaves_more (Brings v x) Entered v (entered v at)) (left_has_entered x v (leaving.separate.bridges i v at).placed))

  leaving_stepped : (s : State) (i : ℕ) (x : Input) → is_service x ≡ false → IsInputAt s.views i x → ((v : BridgeView) → slice_get s.views i ≡ Some v → (isid : Isid) (f : List ℕ) → Brings v x isid f → Entered isid f) → IsLeaving w Entered s → IsLeaving w Entered (stepped x s i)
  leaving_stepped s i x other input entered leaving =
      let brought : IsBrought Entered (LeftEntered w Entered) s i x = record { input = input; entered = entered; left = left s i x leaving entered } in
      record {
        world = stepped_world x s i ∙ leaving.world;
        attached = subst (AreAttached w) (sym (stepped_views x s i)) (attached_stepped x w s.views i other leaving.attached);
        separate = separate_stepped Entered (LeftEntered w Entered) s i x brought leaving.separate;
      }

  leaving_fewer : (s : State) (lanes : List LinkLanes) → IsLeaving w Entered s → ((k : ℕ) (dir : Dir) (f : Frame) → IsIn f (lane_of lanes k dir) → IsIn f (lane_of s.lanes k dir)) → IsLeaving w Entered (record s { lanes = lanes })
  leaving_fewer s lanes leaving fewer = record { world = leaving.world; attached = leaving.attached; separate = separate_fewer Entered (LeftEntered w Entered) s lanes leaving.separate fewer }

  pub leaving_ticked : (s : State) (i : ℕ) → IsLeaving w Entered s → IsLeaving w Entered (ticked s i)
  leaving_ticked s i leaving =
      let stepping : IsLeaving w Entered (stepped comes.second s i) = leaving_stepped s i comes.second refl (λ v at. tt) (λ v at isid f brings. absurd brings) leaving in
      record {
        world = stepping.world;
        attached = stepping.attached;
        separate = record { lanes = stepping.separate.lanes; bridges = stepping.separate.bridges; outs = stepping.separate.outs };
      }

  -- ---- a delivery

  -- what stands at the front of a lane carries what has entered
  front_entered : (s : State) (k : ℕ) (dir : Dir) (bytes : Frame) → IsLeaving w Entered s → slice_get (lane_at s k dir) 0 ≡ Some bytes → CarriesEntered Entered bytes
  front_entered s k dir bytes leaving front =
      All-in (CarriesEntered Entered) (lane_of s.lanes k dir) bytes (leaving.separate.lanes k dir) (in_got bytes (lane_of s.lanes k dir) 0 front)

  heard_leaving : (s : State) (k : ℕ) (dir : Dir) (bytes : Frame) (o : Option DeclaredLink) → slice_get (lane_at s k dir) 0 ≡ Some bytes → IsLeaving w Entered s → IsLeaving w Entered (heard_over (with_frames rest s k dir) dir bytes o)
  heard_leaving s k dir bytes None front leaving = leaving_fewer s (changed_at (changed_lane dir rest) s.lanes k) leaving (fewer_rest s k dir)
  heard_leaving s k dir bytes (Some l) front leaving =
      let carries : CarriesEntered Entered bytes = front_entered s k dir bytes leaving front in
      leaving_stepped (with_frames rest s k dir) (far_end dir l).bridge (comes.frame (far_end dir l).port bytes) refl (λ v at. tt)
      (λ v at isid f brings. carries brings.to brings.from brings.vid isid f brings.carried)
      (leaving_fewer s (changed_at (changed_lane dir rest) s.lanes k) leaving (fewer_rest s k dir))

  front_leaving : (s : State) (k : ℕ) (dir : Dir) (o : Option Frame) → slice_get (lane_at s k dir) 0 ≡ o → IsLeaving w Entered s → IsLeaving w Entered (delivered_front s k dir o)
  front_leaving s k dir None front leaving = leaving
  front_leaving s k dir (Some bytes) front leaving = heard_leaving s k dir bytes (slice_get (links_of s) k) front leaving

  pub leaving_delivered : (s : State) (k : ℕ) (dir : Dir) → IsLeaving w Entered s → IsLeaving w Entered (delivered s k dir)
  unfolding delivered
  leaving_delivered s k dir leaving = front_leaving s k dir (slice_get (lane_at s k dir) 0) refl leaving

  -- ---- rounds and drains

  leaving_ticked_from : (n i : ℕ) (s : State) → IsLeaving w Entered s → IsLeaving w Entered (ticked_from n i s)
  leaving_ticked_from zero i s leaving = leaving
  leaving_ticked_from (suc n) i s leaving = leaving_ticked_from n (i + 1) (ticked s i) (leaving_ticked s i leaving)

  leaving_delivered_times : (n k : ℕ) (dir : Dir) (s : State) → IsLeaving w Entered s → IsLeaving w Entered (delivered_times n k dir s)
  leaving_delivered_times zero k dir s leaving = leaving
  leaving_delivered_times (suc n) k dir s leaving = leaving_delivered_times n k dir (delivered s k dir) (leaving_delivered s k dir leaving)

  leaving_lane_served : (s : State) (k : ℕ) (dir : Dir) → IsLeaving w Entered s → IsLeaving w Entered (lane_served s k dir)
  unfolding lane_served
  leaving_lane_served s k dir leaving = leaving_delivered_times (length (lane_at s k dir)) k dir s leaving

  leaving_served_from : (n k : ℕ) (s : State) → IsLeaving w Entered s → IsLeaving w Entered (served_from n k s)
  leaving_served_from zero k s leaving = leaving
  leaving_served_from (suc n) k s leaving =
      let t : State = lane_served s k Ab in
      leaving_served_from n (k + 1) (lane_served t k Ba) (leaving_lane_served t k Ba (leaving_lane_served s k Ab leaving))

  leaving_one_round : (s : State) → IsLeaving w Entered s → IsLeaving w Entered (one_round s)
  unfolding one_round
  leaving_one_round s leaving =
      let t : State = ticked_from (length s.views) 0 s in
      leaving_served_from (length t.lanes) 0 t (leaving_ticked_from (length s.views) 0 s leaving)

  pub leaving_rounds : (n : ℕ) (s : State) → IsLeaving w Entered s → IsLeaving w Entered (rounds n s)
  leaving_rounds zero s leaving = leaving
  leaving_rounds (suc n) s leaving = leaving_rounds n (one_round s) (leaving_one_round s leaving)

  over_leaving : (s : State) (lane : Option LaneId) → IsLeaving w Entered s → IsLeaving w Entered (delivered_over s lane)
  over_leaving s None leaving = leaving
  over_leaving s (Some lane) leaving = leaving_delivered s lane.link lane.dir leaving

  leaving_delivered_first : (s : State) → IsLeaving w Entered s → IsLeaving w Entered (delivered_first s)
  unfolding delivered_first
  leaving_delivered_first s leaving = over_leaving s (first_full_from 0 s.lanes) leaving

  pub leaving_drained : (n : ℕ) (s : State) → IsLeaving w Entered s → IsLeaving w Entered (drained n s)
  leaving_drained zero s leaving = leaving
  leaving_drained (suc n) s leaving = leaving_drained n (delivered_first s) (leaving_delivered_first s leaving)

  -- ---- a customer's frame that enters

  -- it has entered in the I-SID of its port
  pub leaving_entered : (s : State) (i port : ℕ) (bytes : List ℕ) → IsInputAt s.views i (comes.customer port bytes) → ((v : BridgeView) (isid : Isid) → slice_get s.views i ≡ Some v → IsAttachedTo v.attached port isid → Entered isid bytes) → IsLeaving w Entered s → IsLeaving w Entered (stepped (comes.customer port bytes) s i)
  leaving_entered s i port bytes input enters leaving =
      leaving_stepped s i (comes.customer port bytes) refl input
      (λ v at isid f brings. subst (Entered isid) brings.entered (enters v isid at (subst (IsAttachedTo v.attached port) brings.service (attached_to port v.attached brings.attachment brings.attached)))) leaving
