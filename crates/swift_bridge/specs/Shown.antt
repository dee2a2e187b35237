-- The trees that a bridge keeps.
use Rattle.std.specs.Prelude.{◌≡◌, ℕ, ◌≤◌, ⊤, length, Contains, Option, Some, None}
use Rattle.spb_types.specs.Ect.{mask_of}
use Rattle.spb_types.specs.Graph.{IsBridge, IsValid}
use Rattle.spb_types.specs.declared.address.SystemId.{SystemId}
use Rattle.spb_types.specs.declared.graph.Graph.{Graph}
use Rattle.spb_types.specs.declared.limits.TheConstants.{MOST_GRAPH_BRIDGES}
use Rattle.spb_types.specs.declared.service.VidPlan.{VidPlan}
use Rattle.ect_trees.specs.Tree.{Paths, GivesBest}
use Rattle.bridge_api.specs.View.{BridgeView}
use Rattle.bridge_api.specs.Tables.{contents_of, read_graph}
use Rattle.bridge_api.specs.Graph.{IsOwnGraph}
use Rattle.fork_trees.specs.Set.{Kept, Answers}
use Rattle.swift_bridge.specs.Following.{masks_of, AreTreesOf}

-- the trees of the graph of all that a bridge reads, reached or not, under the masks of its base VIDs
abbrev pub AreOwnTrees : BridgeView → Kept → Type 0
AreOwnTrees v s = AreTreesOf (read_graph v) (masks_of v.vids) s

-- where trees are shown, they are those of the bridge
abbrev pub AreCurrent : BridgeView → Option Kept → Type 0
AreCurrent v None = ⊤
AreCurrent v (Some s) = AreOwnTrees v s

-- the answer is a tree, which gives the best paths of a graph from this bridge
pub record IsTreeIn (g : Graph) (mask : ℕ) (source : SystemId) (answer : Option Paths) : Type 0 where
  pub tree : Paths
  pub answered : answer ≡ Some tree
  pub best : GivesBest g mask source tree

-- in the graph of a bridge, cut down to what it reaches, such a set answers from each bridge, for each base VID, with
-- the best paths of that graph
abbrev pub CutKeepsTrees : Type 0
CutKeepsTrees = (v : BridgeView) (g : Graph) (s : Kept) (source : SystemId) (plan : VidPlan) (answer : Option Paths)
    → length (contents_of v) ≤ MOST_GRAPH_BRIDGES → IsOwnGraph v g → IsValid g → AreOwnTrees v s
    → IsBridge g source → Contains v.vids plan → Answers s source (mask_of plan.ect) answer
    → IsTreeIn g (mask_of plan.ect) source answer
