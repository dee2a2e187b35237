-- Group trees (IEEE 802.1aq, 27.15 and 28.10): what a source sends to a service goes from bridge to bridge by the group
-- rows for their address, to each receiver by one way alone.
use Rattle.std.specs.Prelude.{◌≡◌, ◌≢◌, ◌↔◌, ◌⊎◌, ℕ, ◌+◌, ◌<◌, ◌≤◌, List, [], ◌∷◌, Some, Contains, option_map, unwrap_or, true}
use Rattle.spb_types.specs.Address.{group_address}
use Rattle.spb_types.specs.Ect.{mask_of}
use Rattle.spb_types.specs.Graph.{IsBridge, IsValidFor, port_between}
use Rattle.spb_types.specs.Ports.{has}
use Rattle.spb_types.specs.Tables.{group_in}
use Rattle.spb_types.specs.declared.address.SystemId.{SystemId}
use Rattle.spb_types.specs.declared.graph.Graph.{Graph}
use Rattle.spb_types.specs.declared.graph.GraphBridge.{GraphBridge}
use Rattle.spb_types.specs.declared.graph.Member.{Member}
use Rattle.spb_types.specs.declared.limits.TheConstants.{GREATEST_ISID, SOURCE_IDS}
use Rattle.spb_types.specs.declared.ports.PortSet.{PortSet}
use Rattle.spb_types.specs.declared.service.Isid.{Isid}
use Rattle.spb_types.specs.declared.service.VidPlan.{VidPlan}
use Rattle.ect_trees.specs.Path.{hops_of}
use Rattle.ect_trees.specs.Best.{best_of}
use Rattle.ect_trees.specs.Laws.{IsReached}
use Rattle.fdb_build.specs.Tables.{ArePlans}
use Rattle.fdb_build.specs.Groups.{Sends, Receives, IsServedBy, group_rows}
use Rattle.fdb_build.specs.OnePath.{TakesFrom}

-- A bridge sends to a service in the VID of a plan. The graph is valid for each of its bridges, each of which has an
-- SPSourceID of its own; these and the I-SIDs are in range, so that a group address tells the source and the service.
pub record IsService (g : Graph) (vids : List VidPlan) (plan : VidPlan) (source : GraphBridge) (isid : Isid)
    : Type 0 where
  pub valid : (x : SystemId) → IsBridge g x → IsValidFor g x
  pub plans : ArePlans vids
  pub planned : Contains vids plan
  pub bridge : Contains g.bridges source
  pub sends : Sends g isid plan.vid source.id.system
  pub apart : (a b : GraphBridge) → Contains g.bridges a → Contains g.bridges b
      → a.source.value ≡ b.source.value → a ≡ b
  pub sources : (b : GraphBridge) → Contains g.bridges b → b.source.value < SOURCE_IDS
  pub isids : (m : Member) → Contains g.members m → m.isid.value ≤ GREATEST_ISID

-- the ports by which m sends on what the source sends to the service: those of its group row for their address
abbrev pub group_ports : Graph → List VidPlan → VidPlan → GraphBridge → Isid → SystemId → PortSet
group_ports g vids plan source isid m =
    group_in (group_rows g m vids) plan.vid (group_address source.source.value isid.value)

-- c directly follows m on the best path from the source to some other receiver of the service
abbrev pub FollowsOnTree : Graph → VidPlan → GraphBridge → Isid → SystemId → SystemId → Type 0
FollowsOnTree g plan source isid m c = IsServedBy g (mask_of plan.ect) source.id.system isid plan.vid m c

-- c is on the tree: it is the source, or follows some bridge
abbrev pub IsOnTree : Graph → VidPlan → GraphBridge → Isid → SystemId → Type 0
IsOnTree g plan source isid c =
    (c ≡ source.id.system) ⊎ ((m : SystemId) × FollowsOnTree g plan source isid m c)

-- each bridge of the list follows the one before it, the first follows m, and the last is c; an empty list leads from a
-- bridge to itself
abbrev pub LeadsDown : Graph → VidPlan → GraphBridge → Isid → SystemId → List SystemId → SystemId → Type 0
LeadsDown g plan source isid m [] c = m ≡ c
LeadsDown g plan source isid m (x ∷ xs) c =
    FollowsOnTree g plan source isid m x × LeadsDown g plan source isid x xs c

-- the number of edges of the best path from the source, 0 where there is none
abbrev pub depth : Graph → VidPlan → GraphBridge → SystemId → ℕ
depth g plan source c = unwrap_or (option_map hops_of (best_of g (mask_of plan.ect) source.id.system c)) 0

-- ---- laws

-- the group row at m has the ports of m towards those that follow it, and no other
abbrev pub RowsLeadOn : Type 0
RowsLeadOn = (g : Graph) (vids : List VidPlan) (plan : VidPlan) (source : GraphBridge) (isid : Isid)
    (m : SystemId) (p : ℕ) → IsService g vids plan source isid
    → (has (group_ports g vids plan source isid m) p ≡ true)
    ↔ ((c : SystemId) × FollowsOnTree g plan source isid m c × (port_between g m c ≡ Some p))

-- the port of m to a neighbour is in the row just where the neighbour follows m
abbrev pub RowsLeadToFollowers : Type 0
RowsLeadToFollowers = (g : Graph) (vids : List VidPlan) (plan : VidPlan) (source : GraphBridge) (isid : Isid)
    (m c : SystemId) (p : ℕ) → IsService g vids plan source isid → port_between g m c ≡ Some p
    → (has (group_ports g vids plan source isid m) p ≡ true) ↔ FollowsOnTree g plan source isid m c

-- m has a port to c, which takes the source's frames from m alone; c follows no other bridge, m doesn't follow c, and c
-- isn't the source
pub record AcceptsFrom (g : Graph) (vids : List VidPlan) (plan : VidPlan) (source : GraphBridge) (isid : Isid)
    (m c : SystemId) : Type 0 where
  pub port : ℕ
  pub towards : port_between g m c ≡ Some port
  pub takes : TakesFrom g vids plan source.id.system m c
  pub alone : (n : SystemId) → FollowsOnTree g plan source isid n c → n ≡ m
  pub onward : FollowsOnTree g plan source isid c m → ⊥
  pub other : c ≢ source.id.system

-- so is each bridge that follows another
abbrev pub FollowersAccept : Type 0
FollowersAccept = (g : Graph) (vids : List VidPlan) (plan : VidPlan) (source : GraphBridge) (isid : Isid)
    (m c : SystemId) → IsService g vids plan source isid
    → FollowsOnTree g plan source isid m c → AcceptsFrom g vids plan source isid m c

-- a bridge that isn't on the tree sends nothing on, and is sent nothing
abbrev pub NothingElsewhere : Type 0
NothingElsewhere = (g : Graph) (vids : List VidPlan) (plan : VidPlan) (source : GraphBridge) (isid : Isid)
    (m : SystemId) (p : ℕ) → IsService g vids plan source isid
    → has (group_ports g vids plan source isid m) p ≡ true
    → IsOnTree g plan source isid m
    × ((c : SystemId) → port_between g m c ≡ Some p → IsOnTree g plan source isid c)

-- the bridge before c is on the tree, and one edge nearer to the source, which reaches c
pub record HangsBelow (g : Graph) (plan : VidPlan) (source : GraphBridge) (isid : Isid) (m c : SystemId)
    : Type 0 where
  pub above : IsOnTree g plan source isid m
  pub deeper : depth g plan source c ≡ depth g plan source m + 1
  pub reached : IsReached g source.id.system c

-- so is each bridge that follows another
abbrev pub TreeHangsTogether : Type 0
TreeHangsTogether = (g : Graph) (vids : List VidPlan) (plan : VidPlan) (source : GraphBridge) (isid : Isid)
    (m c : SystemId) → IsService g vids plan source isid
    → FollowsOnTree g plan source isid m c → HangsBelow g plan source isid m c

-- from the source the tree leads down to each other receiver that the source reaches
abbrev pub ReceiversAreOnTree : Type 0
ReceiversAreOnTree = (g : Graph) (vids : List VidPlan) (plan : VidPlan) (source : GraphBridge) (isid : Isid)
    (r : SystemId) → IsService g vids plan source isid
    → Receives g isid plan.vid r → r ≢ source.id.system → IsReached g source.id.system r
    → (way : List SystemId) × LeadsDown g plan source isid source.id.system way r

-- a receiver that follows another bridge than the source
pub record HasTransit (g : Graph) (vids : List VidPlan) (plan : VidPlan) (source : GraphBridge) (isid : Isid)
    : Type 0 where
  pub service : IsService g vids plan source isid
  pub receiver : SystemId
  pub between : SystemId
  pub takes : Receives g isid plan.vid receiver
  pub follows : FollowsOnTree g plan source isid between receiver
  pub other : between ≢ source.id.system

-- some service has one
abbrev pub SomeServiceHasTransit : Type 0
SomeServiceHasTransit = (g : Graph) × (vids : List VidPlan) × (plan : VidPlan) × (source : GraphBridge)
    × (isid : Isid) × HasTransit g vids plan source isid
