-- What quiet says: bridges that a walk over links that are up joins hold the same, and what they hold is the wiring.
use Rattle.std.specs.Prelude.{◌≡◌, ◌↔◌, ℕ, ◌≤◌, List, [], ◌∷◌, length, true, false, Some, slice_get}
use Rattle.std.specs.List.{AllByRecursion}
use Rattle.std.specs.FinMap.{get}
use Rattle.spb_types.specs.Graph.{IsValid, cost_between, port_between}
use Rattle.spb_types.specs.declared.address.SystemId.{SystemId}
use Rattle.spb_types.specs.declared.address.LspId.{LspId}
use Rattle.spb_types.specs.declared.graph.Graph.{Graph}
use Rattle.spb_types.specs.declared.link.Dir.{Dir}
use Rattle.spb_types.specs.declared.limits.TheConstants.{MOST_GRAPH_BRIDGES}
use Rattle.ect_trees.specs.Best.{best_of}
use Rattle.ect_trees.specs.Laws.{IsReached, IsPartOf}
use Rattle.lsdb.specs.Entry.{Entry}
use Rattle.lsdb.specs.Database.{version_at}
use Rattle.lsdb.specs.Time.{is_live}
use Rattle.spb_content.specs.Graph.{said_of, cost_said, port_said}
use Rattle.spb_content.specs.Local.{said_by}
use Rattle.bridge_api.specs.View.{BridgeView}
use Rattle.bridge_api.specs.Own.{local_of}
use Rattle.bridge_api.specs.Graph.{contents_of, IsOwnGraph, own_tables}
use Rattle.spb_world.specs.declared.declaration.DeclaredLink.{DeclaredLink}
use Rattle.spb_world.specs.World.{world_graph, wired_tables}
use Rattle.network_model.specs.State.{State, links_of}
use Rattle.spb_world.specs.Links.{near_end, far_end}
use Rattle.network_model.specs.Sound.{IsSoundState}
use Rattle.network_model.specs.Copies.{HaveOneBody}
use Rattle.network_model.specs.Quiet.{IsQuiet, IsCalm}

-- ---- walks

-- a link that is up joins the bridges at two places
pub record AreLinked (links : List DeclaredLink) (i j : ℕ) : Type 0 where
  pub place : ℕ
  pub dir : Dir
  pub link : DeclaredLink
  pub there : slice_get links place ≡ Some link
  pub live : link.live ≡ true
  pub near : (near_end dir link).bridge ≡ i
  pub far : (far_end dir link).bridge ≡ j

-- i ∷ ks is a walk over such links that ends at j
abbrev pub IsWalk : List DeclaredLink → ℕ → List ℕ → ℕ → Type 0
IsWalk links i [] j = i ≡ j
IsWalk links i (k ∷ ks) j = AreLinked links i k × IsWalk links k ks j

-- the bridges at two places of a state, which a walk joins
pub record AreJoined (s : State) (v w : BridgeView) : Type 0 where
  pub from : ℕ
  pub to : ℕ
  pub here : slice_get s.views from ≡ Some v
  pub there : slice_get s.views to ≡ Some w
  pub walk : List ℕ
  pub leads : IsWalk (links_of s) from walk to

-- ---- what it says

-- two bridges hold the same: under each id the same version, and the same body where that is live
pub record HoldTheSame (v w : BridgeView) : Type 0 where
  pub versions : (id : LspId) → version_at v.database id ≡ version_at w.database id
  pub bodies : (id : LspId) (d e : Entry) → get v.database id ≡ Some d → get w.database id ≡ Some e
      → is_live e.version ≡ true → d.body ≡ e.body

-- in a quiet network in which no live version has two bodies, all bridges that a walk joins hold the same
abbrev pub QuietIsShared : Type 0
QuietIsShared = (s : State) (v w : BridgeView) → IsSoundState s → IsCalm s → HaveOneBody s → AreJoined s v w
    → HoldTheSame v w

-- a sound network that is quiet, in which no bridge has spent its sequence numbers, and each reads no more systems than
-- a graph has room for
pub record IsAtRest (s : State) : Type 0 where
  pub sound : IsSoundState s
  pub calm : IsCalm s
  pub bodies : HaveOneBody s
  pub fresh : AllByRecursion (λ v. v.spent ≡ false) s.views
  pub few : AllByRecursion (λ v. length (contents_of v) ≤ MOST_GRAPH_BRIDGES) s.views

-- there each bridge reads of each bridge that a walk joins to it what that one has to say
abbrev pub QuietIsRead : Type 0
QuietIsRead = (s : State) (v w : BridgeView) → IsAtRest s → AreJoined s v w
    → said_of (contents_of v) w.id.system ≡ Some (said_by (local_of w))

-- what a bridge reads of the links of a system: the costs and the ports of the wiring
pub record ReadsLinksOf (s : State) (v : BridgeView) (x : SystemId) : Type 0 where
  pub costs : (y : SystemId) → cost_said (contents_of v) x y ≡ cost_between (world_graph s.world) x y
  pub ports : (y : SystemId) → port_said (contents_of v) x y ≡ port_between (world_graph s.world) x y

-- so it is of each bridge that a walk joins to it
abbrev pub QuietReadsLinks : Type 0
QuietReadsLinks = (s : State) (v w : BridgeView) → IsAtRest s → AreJoined s v w → ReadsLinksOf s v w.id.system

-- the system is that of a bridge that a walk joins to this one
pub record IsThere (s : State) (v : BridgeView) (x : SystemId) : Type 0 where
  pub w : BridgeView
  pub joined : AreJoined s v w
  pub is : w.id.system ≡ x

-- what the bridge v at place i has right: in the wiring it reaches the bridges that walks join to it, its graph is the
-- part of the wiring that it reaches, its tables are those that are wired for it, and in its graph the best paths from
-- what it reaches are those of the wiring
pub record HasWiredTables (s : State) (i : ℕ) (v : BridgeView) : Type 0 where
  pub reached : (x : SystemId) → IsReached (world_graph s.world) v.id.system x ↔ IsThere s v x
  pub graph : (g : Graph) → IsOwnGraph v g → IsPartOf (world_graph s.world) v.id.system g
  pub tables : own_tables v ≡ wired_tables s.world i
  pub best : (g : Graph) (mask : ℕ) (a b : SystemId) → IsOwnGraph v g → IsValid g
      → IsReached (world_graph s.world) v.id.system a → best_of g mask a b ≡ best_of (world_graph s.world) mask a b

-- so it is of every bridge
abbrev pub QuietIsTrue : Type 0
QuietIsTrue = (s : State) (i : ℕ) (v : BridgeView) → IsAtRest s → slice_get s.views i ≡ Some v → HasWiredTables s i v

-- and of every bridge of a sound network in which no condition of quiet fails, where no live version has two bodies, no
-- bridge has spent its sequence numbers and each reads few systems
abbrev pub QuietHasWiredTables : Type 0
QuietHasWiredTables = (s : State) (i : ℕ) (v : BridgeView) → IsSoundState s → IsQuiet s → HaveOneBody s
    → AllByRecursion (λ x. x.spent ≡ false) s.views
    → AllByRecursion (λ x. length (contents_of x) ≤ MOST_GRAPH_BRIDGES) s.views
    → slice_get s.views i ≡ Some v → HasWiredTables s i v
