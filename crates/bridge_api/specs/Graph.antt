-- The graph that a bridge reads from the LSPs that it holds (RFC 6329, 15 and 16; IEEE 802.1aq, 28).
use Rattle.std.specs.Prelude.{◌≡◌, ◌↔◌, ℕ, ◌≤◌, List, length, true, false, Option, Some, None, ◌==◌, Contains, ◌-◌, slice_get, find, if◌then◌else◌}
use Rattle.std.specs.Option.{option_and_then}
use Rattle.std.specs.FinMap.{get}
use Rattle.spb_types.specs.declared.address.SystemId.{SystemId}
use Rattle.spb_types.specs.declared.address.LspId.{LspId}
use Rattle.spb_types.specs.declared.graph.Graph.{Graph}
use Rattle.spb_types.specs.declared.service.Vid.{Vid}
use Rattle.spb_types.specs.declared.service.VidPlan.{VidPlan}
use Rattle.spb_types.specs.declared.tables.Path.{Path}
use Rattle.spb_types.specs.declared.limits.TheConstants.{MOST_GRAPH_BRIDGES}
use Rattle.spb_types.specs.Graph.{IsDistinct, IsValid}
use Rattle.spb_types.specs.Ect.{mask_of}
use Rattle.ect_trees.specs.Tree.{best_path}
use Rattle.spb_tlvs.specs.declared.neighbours.Neighbour.{Neighbour}
use Rattle.lsdb.specs.Entry.{Entry}
use Rattle.lsdb.specs.Database.{Lsps, version_at}
use Rattle.lsdb.specs.Time.{is_live}
use Rattle.flooding.specs.Own.{own_id}
use Rattle.spb_content.specs.declared.content.Content.{Content}
use Rattle.spb_content.specs.Local.{said_by}
use Rattle.spb_content.specs.Members.{merged}
use Rattle.spb_content.specs.Graph.{systems_in, members_of, IsGraphOf, HasOwnPorts}
use Rattle.fdb_build.specs.Tables.{unicast_rows}
use Rattle.fdb_build.specs.Groups.{group_rows}
use Rattle.bridge_api.specs.View.{BridgeView, metrics_of, is_up_at, neighbour_at}
use Rattle.bridge_api.specs.Tables.{live_lsps, said_among}
pub use Rattle.bridge_api.specs.Tables.{contents_of, read_graph, own_tables}
use Rattle.bridge_api.specs.Own.{local_of}
use Rattle.bridge_api.specs.Laws.{IsSoundView}

-- what the live LSPs that are held of a system say, put together, if the one of number 0 is live
abbrev pub content_held : Lsps → SystemId → Option Content
content_held db x = if is_live (version_at db (own_id x)) then Some (said_among (live_lsps db) x) else None

-- the graph of a bridge: what it reaches, and nothing where its own LSP of number 0 isn't live
abbrev pub IsOwnGraph : BridgeView → Graph → Type 0
IsOwnGraph v g = IsGraphOf v.id.system (contents_of v) g

-- it reads of each system what the live LSPs say that it holds of that system, if the one of number 0 is among them,
-- and of no other
abbrev pub ReadsWhatIsHeld : Type 0
ReadsWhatIsHeld = (v : BridgeView) (x : SystemId) (c : Content)
    → Contains (contents_of v) (x, c) ↔ (content_held v.database x ≡ Some c)

-- and of each system once
abbrev pub ReadsEachOnce : Type 0
ReadsEachOnce = (v : BridgeView) → IsDistinct (systems_in (contents_of v))

-- of itself a sound bridge reads what it has to say, unless its sequence numbers are spent
abbrev pub ReadsItself : Type 0
ReadsItself = (v : BridgeView) → IsSoundView v → v.spent ≡ false
    → Contains (contents_of v) (v.id.system, said_by (local_of v))

-- a bridge holds of the system of another what that one holds: the same versions, and the same bodies of what is live
pub record HoldsAs (v w : BridgeView) : Type 0 where
  pub versions : (id : LspId) → id.system ≡ w.id.system → version_at v.database id ≡ version_at w.database id
  pub bodies : (id : LspId) (d e : Entry) → id.system ≡ w.id.system → get v.database id ≡ Some d
      → get w.database id ≡ Some e → is_live e.version ≡ true → d.body ≡ e.body

-- and then it reads of that one what it has to say, if that one is sound and its sequence numbers aren't spent
abbrev pub ReadsOthers : Type 0
ReadsOthers = (v w : BridgeView) → IsSoundView w → w.spent ≡ false → HoldsAs v w
    → Contains (contents_of v) (w.id.system, said_by (local_of w))

-- of itself a sound bridge reads each neighbour at a port of its own, also where they are spent
abbrev pub OwnPortsAreApart : Type 0
OwnPortsAreApart = (v : BridgeView) → IsSoundView v → HasOwnPorts (contents_of v) v.id.system

-- ---- whom it says to be its neighbours

-- at the port that is named the bridge is Up, keeps a neighbour of the system, and has the metric
pub record IsUpNeighbour (v : BridgeView) (n : Neighbour) : Type 0 where
  pub up : is_up_at v n.port ≡ true
  pub circuit : ℕ
  pub kept : neighbour_at v n.port ≡ Some (n.system, circuit)
  pub metric : slice_get (metrics_of v.ports) (n.port - 1) ≡ Some n.metric

-- a bridge says those to be its neighbours, and no others
abbrev pub SaysItsNeighbours : Type 0
SaysItsNeighbours = (v : BridgeView) (n : Neighbour) → Contains (local_of v).neighbours n ↔ IsUpNeighbour v n

-- ---- of which services it says that it is a member

-- what a bridge reads of what it says: it is a member of each service that its customer ports are attached to, once,
-- and transmits and receives there as they do together
abbrev pub MembersAreSaid : Type 0
MembersAreSaid = (v : BridgeView) → IsSoundView v
    → members_of (v.id.system, said_by (local_of v)) ≡ merged v.id.system (local_of v).attached

-- ---- its tables

-- what is planned for a VID
abbrev pub planned_for : List VidPlan → Vid → Option VidPlan
planned_for plans vid = find (λ plan. plan.vid.value == vid.value) plans

-- the best path of a bridge to a system in a VID, with its cost, in that graph: by the ECT algorithm that is planned
-- for the VID, and none where none is (IEEE 802.1aq, 28.5 to 28.8)
unfoldable pub own_path : BridgeView → SystemId → Vid → Option Path
own_path v to vid = option_and_then (λ plan. best_path (read_graph v) (mask_of plan.ect) v.id.system to)
    (planned_for v.vids vid)

-- what it doesn't reach says nothing: the rows are those in its own graph
abbrev pub CutSaysNothing : Type 0
CutSaysNothing = (v : BridgeView) (g : Graph)
    → length (contents_of v) ≤ MOST_GRAPH_BRIDGES → IsOwnGraph v g → IsValid g
    → (unicast_rows g v.id.system v.vids ≡ unicast_rows (read_graph v) v.id.system v.vids)
    × (group_rows g v.id.system v.vids ≡ group_rows (read_graph v) v.id.system v.vids)

-- there are such a bridge and graph
pub record SomeGraphIsOwn : Type 0 where
  pub bridge : BridgeView
  pub graph : Graph
  pub few : length (contents_of bridge) ≤ MOST_GRAPH_BRIDGES
  pub own : IsOwnGraph bridge graph
  pub valid : IsValid graph
