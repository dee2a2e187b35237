-- What holds of a network at every moment, whatever came to its bridges and whatever became of the frames on their way.
use Rattle.std.specs.Prelude.{◌≡◌, ◌⊎◌, ℕ, ◌≤◌, List, [], length, Bool, true, false, Option, Some, slice_get}
use Rattle.std.specs.List.{AllByRecursion}
use Rattle.std.specs.Option.{option_map, option_map_or}
use Rattle.std.specs.FinMap.{get}
use Rattle.spb_types.specs.declared.address.LspId.{LspId}
use Rattle.spb_types.specs.declared.service.VidPlan.{VidPlan}
use Rattle.spb_types.specs.Ports.{has}
use Rattle.link_model.specs.Lane.{Frame}
use Rattle.isis_pdu.specs.Pdu.{HelloValue}
use Rattle.spb_tlvs.specs.declared.three_way.ThreeWay.{ThreeWay}
use Rattle.lsdb.specs.declared.version.Version.{Version}
use Rattle.lsdb.specs.Version.{IsAtMost}
use Rattle.lsdb.specs.Database.{srm_in, version_at}
use Rattle.lsdb.specs.Certificate.{IsClaimed}
use Rattle.adjacency.specs.Hearing.{End, sender}
use Rattle.spb_types.specs.declared.link.Dir.{Dir}
use Rattle.bridge_api.specs.View.{BridgeView, IsPort, port_at, neighbour_at, is_up_at, has_carrier_at}
use Rattle.bridge_api.specs.Parsing.{parsed}
use Rattle.bridge_api.specs.Parsing as parsing
use Rattle.bridge_api.specs.Laws.{IsSoundView, IsWritten, claims_said}
use Rattle.bridge_laws.specs.Brief.{most_frame_bytes}
use Rattle.spb_world.specs.declared.declaration.DeclaredBridge.{DeclaredBridge}
use Rattle.spb_world.specs.declared.declaration.DeclaredLink.{DeclaredLink}
use Rattle.network_model.specs.declared.kind_rule.KindRule.{KindRule}
use Rattle.link_model.specs.declared.lanes.LinkLanes.{LinkLanes}
use Rattle.spb_world.specs.World.{World, things_of, attached_at, Sound, AreDistinct}
use Rattle.link_model.specs.Lanes.{lane_of}
use Rattle.network_model.specs.State.{State, Spare, links_of, Fits}
use Rattle.spb_world.specs.Links.{is_live, near_end, far_end, lane_out}
use Rattle.spb_types.specs.declared.limits.TheConstants.{MOST_FRAMES}

-- ---- what is declared

-- ---- one bridge

-- the bridge is the declared one: its ids, and the VIDs of the network
pub record IsShown (plans : List VidPlan) (b : DeclaredBridge) (v : BridgeView) : Type 0 where
  pub id : v.id ≡ b.bridge.id
  pub source : v.source ≡ b.bridge.source
  pub vids : v.vids ≡ plans

-- each bridge is the one that was declared at its place
abbrev pub AreShown : World → List BridgeView → Type 0
AreShown w views = (i : ℕ) (v : BridgeView) (b : DeclaredBridge) → slice_get views i ≡ Some v
    → slice_get (things_of w.bridges) i ≡ Some b → IsShown w.vids b v

-- each bridge has attached what is attached in the world
abbrev pub AreAttached : World → List BridgeView → Type 0
AreAttached w views = (i : ℕ) (v : BridgeView) → slice_get views i ≡ Some v → v.attached ≡ attached_at w i

-- whether a link that is up ends at a port of the bridge at place i
abbrev pub ends_live_link : List DeclaredLink → ℕ → ℕ → Bool
ends_live_link links i p = option_map_or (λ lane. is_live links lane.link) (lane_out links i p) false

-- each port has carrier exactly where a link that is up ends there
abbrev pub HaveCarrierOfLinks : List DeclaredLink → List BridgeView → Type 0
HaveCarrierOfLinks links views = (i : ℕ) (v : BridgeView) (p : ℕ) → slice_get views i ≡ Some v → IsPort v p
    → has_carrier_at v p ≡ ends_live_link links i p

-- the metric of the link at a port
abbrev pub metric_at : BridgeView → ℕ → Option ℕ
metric_at v p = option_map (λ port. port.metric) (port_at v p)

-- the port at each end of a link has the metric of that end
abbrev pub HaveLinkMetrics : List DeclaredLink → List BridgeView → Type 0
HaveLinkMetrics links views = (k : ℕ) (dir : Dir) (l : DeclaredLink) (v : BridgeView) → slice_get links k ≡ Some l
    → slice_get views (near_end dir l).bridge ≡ Some v
    → metric_at v (near_end dir l).port ≡ Some (near_end dir l).metric

-- ---- one direction of a link

-- a port of a bridge, as its hellos name it
abbrev pub end_at : BridgeView → ℕ → End
end_at v p = (v.id.system, p)

-- a hello of one end of a link: of level 1, to be held for three seconds, in a state that there is, and where it names
-- a neighbour, this is the other end
pub record IsHelloTo (from to : End) (hello : HelloValue) (way : ThreeWay) : Type 0 where
  pub sender : sender hello way ≡ from
  pub level : hello.circuit_type ≡ 1
  pub holding : hello.holding ≡ 3
  pub state : way.state ≤ 2
  pub neighbour : (n : End) → way.neighbour ≡ Some n → n ≡ to

-- a frame that is on its way from port p of a bridge v to port q of a bridge w: if it is heard as a hello, it is one of
-- this sender to this receiver; whatever is claimed in it is at most what the sender holds now; it is written as the
-- sender writes; and it has no more bytes than a bridge makes
pub record IsFrameFrom (v : BridgeView) (p : ℕ) (w : BridgeView) (q : ℕ) (bytes : Frame) : Type 0 where
  pub hello : (h : HelloValue) (way : ThreeWay) → parsed bytes ≡ parsing.hello h way
      → IsHelloTo (end_at v p) (end_at w q) h way
  pub claims : (id : LspId) (a : Version) → IsClaimed (claims_said (parsed bytes)) id a
      → IsAtMost a (version_at v.database id)
  pub written : IsWritten v.id.system.mac bytes
  pub brief : length bytes ≤ most_frame_bytes

-- the LSP under an id is to be sent at port p of v, or w holds it at least at the version of v
abbrev pub IsFloodedOrHeld : BridgeView → ℕ → BridgeView → LspId → Type 0
IsFloodedOrHeld v p w id = (has (srm_in (get v.database id)) p ≡ true)
    ⊎ IsAtMost (version_at v.database id) (version_at w.database id)

-- one direction of a link, from port p of v to port q of w, with the frames that are on their way: each is said by v,
-- the neighbour that v keeps is the far end, and while the port of v is Up, w is no further behind than what is to be
-- sent
pub record LinkAgrees (v : BridgeView) (p : ℕ) (w : BridgeView) (q : ℕ) (frames : List Frame) : Type 0 where
  pub said : AllByRecursion (IsFrameFrom v p w q) frames
  pub keeps : (n : End) → neighbour_at v p ≡ Some n → n ≡ end_at w q
  pub ready : (id : LspId) → is_up_at v p ≡ true → IsFloodedOrHeld v p w id

-- both directions of each link agree, whether it is up or not
abbrev pub AllAgree : List DeclaredLink → List BridgeView → List LinkLanes → Type 0
AllAgree links views lanes = (k : ℕ) (dir : Dir) (l : DeclaredLink) (v w : BridgeView) → slice_get links k ≡ Some l
    → slice_get views (near_end dir l).bridge ≡ Some v → slice_get views (far_end dir l).bridge ≡ Some w
    → LinkAgrees v (near_end dir l).port w (far_end dir l).port (lane_of lanes k dir)

-- no lane has more frames than it has room for
abbrev pub AreShort : List LinkLanes → Type 0
AreShort lanes = (k : ℕ) (dir : Dir) → length (lane_of lanes k dir) ≤ MOST_FRAMES

-- no frame is on its way over a link that is down
abbrev pub AreIdle : List DeclaredLink → List LinkLanes → Type 0
AreIdle links lanes = (k : ℕ) (dir : Dir) → is_live links k ≡ false → lane_of lanes k dir ≡ []

-- ---- the network

-- what is declared is sound, and the bridges and lanes are those of what is declared; each bridge is sound by itself,
-- and so is what stands between each two that are linked
pub record IsSoundState (s : State) : Type 0 where
  pub world : Sound s.world
  pub distinct : AreDistinct s.world
  pub fits : Fits s
  pub shown : AreShown s.world s.views
  pub views : AllByRecursion IsSoundView s.views
  pub carriers : HaveCarrierOfLinks (links_of s) s.views
  pub metrics : HaveLinkMetrics (links_of s) s.views
  pub attached : AreAttached s.world s.views
  pub short : AreShort s.lanes
  pub idle : AreIdle (links_of s) s.lanes
  pub agree : AllAgree (links_of s) s.views s.lanes

-- a network of a rack of boxes, in which nothing is declared
abbrev pub opening : KindRule → List Spare → State
opening rule rack = record {
  rule = rule;
  rack = rack;
  world = record { vids = []; bridges = []; links = []; services = []; attached = [] };
  views = [];
  lanes = [];
  outs = [];
  rounds = 0;
  drained = 0;
  accepted = 0;
  ticks = [];
}
