-- What a bridge sends at once, by whatever comes to it but a second, is heard as no hello.
use Rattle.std.proofs.Common.{◌≡◌, inl, inr, ◌≤◌, ◌+◌, ℕ, Bool, true, false, List, [], ◌∷◌, refl, sym, ap, subst, Option, Some, None, slice_get, arith}
use Rattle.std.specs.Prelude.{if◌then◌else◌, is_some}
use Rattle.std.specs.List.{AllByRecursion}
use Rattle.std.specs.Option.{option_map_or}
use Rattle.link_model.specs.Lane.{Frame, pushed}
use Rattle.link_model.specs.declared.lanes.LaneId.{LaneId}
use Rattle.spb_types.specs.declared.address.Mac.{Mac}
use Rattle.spb_types.specs.declared.service.Attachment.{Attachment}
use Rattle.spb_types.specs.declared.service.Isid.{Isid}
use Rattle.spb_types.specs.declared.service.Vid.{Vid}
use Rattle.spb_types.specs.Places.{changed_at}
use Rattle.itag_frames.specs.Backbone.{backbone_bytes}
use Rattle.isis_pdu.specs.Pdu.{HelloValue}
use Rattle.spb_tlvs.specs.declared.three_way.ThreeWay.{ThreeWay}
use Rattle.forwarding.specs.declared.moved.Moved.{Moved}
use Rattle.forwarding.specs.Tenant.{nothing, each_with}
use Rattle.bridge_api.specs.declared.port.BridgePort.{BridgePort}
use Rattle.bridge_api.specs.View.{BridgeView, port_at}
use Rattle.bridge_api.specs.Parsing.{Parsed, parsed, hello_in, is_hello}
use Rattle.bridge_api.specs.Parsing as parsing
use Rattle.bridge_api.specs.Customers.{moved_as, moved_at, moved_by_receive}
use Rattle.bridge_api.specs.Step.{Input, frame, customer, step, sent}
use Rattle.bridge_api.specs.Laws.{IsInput, IsSoundView}
use Rattle.bridge_api.proofs.Carried.{IsTaken, encapsulated_is_taken}
use Rattle.bridge_laws.proofs.Forwarded.{Encapsulates, encapsulates}
use Rattle.spb_world.specs.World.{World, things_of}
use Rattle.network_model.specs.State.{State, links_of, with_frames}
use Rattle.spb_world.specs.Links.{is_live, lane_out}
use Rattle.network_model.specs.Events.{sent_over, sent_all, stepped}
use Rattle.network_model.specs.Counted.{hellos_in, hellos_to}
use Rattle.spb_world.proofs.ListLemmas.{All-map}
use Rattle.network_model.proofs.CountedHellos.{one, hellos_pushed, hellos_changed}
use Rattle.network_model.proofs.SoundSteps.{world-sent_over, world-sent_all}

-- none of these frames is heard as a hello
abbrev pub AreNoHellos : List (ℕ × Frame) → Type 0
AreNoHellos fs = AllByRecursion (λ f. is_hello f.1 ≡ false) fs

-- ---- a frame that is relayed

each_no_hello : (f : Frame) (ports : List ℕ) → is_hello f ≡ false → AreNoHellos (each_with f ports)
each_no_hello f [] quiet = tt
each_no_hello f (p ∷ ports) quiet = (quiet, each_no_hello f ports quiet)

relayed_as : (j : Parsed) (p : ℕ) (f : Frame) (v : BridgeView) → parsed f ≡ j → AreNoHellos (moved_as j p f v).wire
relayed_as (parsing.dropped reason) p f v is = tt
relayed_as (parsing.hello h way) p f v is = tt
relayed_as (parsing.lsp l) p f v is = tt
relayed_as (parsing.csnp c) p f v is = tt
relayed_as (parsing.psnp s) p f v is = tt
relayed_as (parsing.customer da sa vid isid payload) p f v is = each_no_hello f _ (ap (λ (j : Parsed). is_some (hello_in j)) is)

relayed_if : (carrier : Bool) (p : ℕ) (f : Frame) (v : BridgeView) → AreNoHellos (if carrier then moved_as (parsed f) p f v else nothing).wire
relayed_if true p f v = relayed_as (parsed f) p f v refl
relayed_if false p f v = tt

relayed_at : (o : Option BridgePort) (p : ℕ) (f : Frame) (v : BridgeView) → AreNoHellos (moved_at p f o v).wire
relayed_at None p f v = tt
relayed_at (Some port) p f v = relayed_if port.adjacency.carrier p f v

pub relayed : (p : ℕ) (f : Frame) (v : BridgeView) → AreNoHellos (sent (frame p f) v)
unfolding moved_by_receive
relayed p f v = relayed_at (port_at v p) p f v

-- ---- a hello makes nobody send anything

nothing_if : (carrier : Bool) (j : Parsed) (p : ℕ) (f : Frame) (v : BridgeView) (h : HelloValue) (way : ThreeWay) → j ≡ parsing.hello h way → (if carrier then moved_as j p f v else nothing) ≡ nothing
nothing_if true j p f v h way is = ap (λ (k : Parsed). moved_as k p f v) is
nothing_if false j p f v h way is = refl

nothing_at : (o : Option BridgePort) (p : ℕ) (f : Frame) (v : BridgeView) (h : HelloValue) (way : ThreeWay) → parsed f ≡ parsing.hello h way → moved_at p f o v ≡ nothing
nothing_at None p f v h way is = refl
nothing_at (Some port) p f v h way is = nothing_if port.adjacency.carrier (parsed f) p f v h way is

pub hello_sends_none : (p : ℕ) (f : Frame) (v : BridgeView) (h : HelloValue) (way : ThreeWay) → parsed f ≡ parsing.hello h way → sent (frame p f) v ≡ []
unfolding moved_by_receive
hello_sends_none p f v h way is = ap (λ (m : Moved). m.wire) (nothing_at (port_at v p) p f v h way is)

-- ---- a customer's frame that enters

taken_no_hello : (f : Frame) (da sa : Mac) (vid : Vid) (isid : Isid) (payload : List ℕ) → IsTaken f da sa vid isid payload → is_hello f ≡ false
taken_no_hello f da sa vid isid payload (inl is) = ap (λ (j : Parsed). is_some (hello_in j)) is
taken_no_hello f da sa vid isid payload (inr is) = ap (λ (j : Parsed). is_some (hello_in j)) is

carrying : (v : BridgeView) (port : ℕ) (bytes f : List ℕ) → Encapsulates v port bytes f → is_hello f ≡ false
carrying v port bytes f e =
    let a : Attachment = e.attachment in
    subst (λ (g : Frame). is_hello g ≡ false) (sym e.is)
    (taken_no_hello (backbone_bytes e.da v.id.system.mac a.vid a.isid bytes) e.da v.id.system.mac a.vid a.isid bytes (encapsulated_is_taken e.da v.id.system.mac a.vid a.isid bytes e.can))

pub entered : (port : ℕ) (bytes : List ℕ) (v : BridgeView) → IsInput v (customer port bytes) → IsSoundView v → AreNoHellos (sent (customer port bytes) v)
entered port bytes v is sound =
    All-map (λ f. Encapsulates v port bytes f.1) (λ f. is_hello f.1 ≡ false) (sent (customer port bytes) v) (λ f e. carrying v port bytes f.1 e) (encapsulates port bytes v is.1 sound)

-- ---- what that is to the hellos on their way

pushed_quiet : (x : Frame) → is_hello x ≡ false → (fs : List Frame) → hellos_in (pushed fs x) ≤ hellos_in fs + 0
pushed_quiet x quiet fs =
    let none : one x ≡ 0 = ap (λ (b : Bool). if b then 1 else 0) quiet in
    omega (arith, hellos_pushed fs x, none)

over_quiet : (s : State) (lane : Option LaneId) (x : Frame) (i : ℕ) → is_hello x ≡ false → hellos_to (links_of s) (sent_over s lane x).lanes i ≤ hellos_to (links_of s) s.lanes i
over_quiet s None x i quiet = omega arith
over_quiet s (Some lane) x i quiet = by (is_live (links_of s) lane.link)
  where
    by : (live : Bool) → hellos_to (links_of s) (if live then with_frames (λ frames. pushed frames x) s lane.link lane.dir else s).lanes i ≤ hellos_to (links_of s) s.lanes i
    by true = let few = hellos_changed (λ frames. pushed frames x) 0 (pushed_quiet x quiet) (links_of s) s.lanes lane.link lane.dir i in omega (arith, few)
    by false = omega arith

all_quiet : (s : State) (i : ℕ) (fs : List (ℕ × Frame)) (j : ℕ) → AreNoHellos fs → hellos_to (links_of s) (sent_all s i fs).lanes j ≤ hellos_to (links_of s) s.lanes j
all_quiet s i [] j quiet = omega arith
all_quiet s i (x ∷ fs) j quiet =
    let lane : Option LaneId = lane_out (links_of s) i x.0 in
    let next : State = sent_over s lane x.1 in
    let more : hellos_to (links_of s) (sent_all next i fs).lanes j ≤ hellos_to (links_of s) next.lanes j =
    subst (λ (w : World). hellos_to (things_of w.links) (sent_all next i fs).lanes j ≤ hellos_to (things_of w.links) next.lanes j) (world-sent_over s lane x.1) (all_quiet next i fs j quiet.1) in
    let first = over_quiet s lane x.1 j quiet.0 in
    omega (arith, more, first)

-- the hellos on their way to a bridge grow by no step in which none is sent
pub quiet_lanes : (x : Input) (s : State) (i j : ℕ) → ((v : BridgeView) → slice_get s.views i ≡ Some v → AreNoHellos (sent x v)) → hellos_to (links_of (stepped x s i)) (stepped x s i).lanes j ≤ hellos_to (links_of s) s.lanes j
unfolding stepped
quiet_lanes x s i j quiet =
    let next : State = record s { views = changed_at (step x) s.views i } in
    let fs : List (ℕ × Frame) = option_map_or (sent x) (slice_get s.views i) [] in
    subst (λ (w : World). hellos_to (things_of w.links) (sent_all next i fs).lanes j ≤ hellos_to (links_of s) s.lanes j) (sym (world-sent_all next i fs))
    (all_quiet next i fs j (by (slice_get s.views i) refl))
  where
    by : (o : Option BridgeView) → slice_get s.views i ≡ o → AreNoHellos (option_map_or (sent x) o [])
    by None at = tt
    by (Some v) at = quiet v at

-- and the lanes are as they were where nothing is sent
pub silent_lanes : (x : Input) (s : State) (i : ℕ) → ((v : BridgeView) → sent x v ≡ []) → (stepped x s i).lanes ≡ s.lanes
unfolding stepped
silent_lanes x s i silent = ap (λ (fs : List (ℕ × Frame)). (sent_all (record s { views = changed_at (step x) s.views i }) i fs).lanes) (by (slice_get s.views i))
  where
    by : (o : Option BridgeView) → option_map_or (sent x) o [] ≡ []
    by None = refl
    by (Some v) = silent v
