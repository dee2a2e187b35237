-- A set of trees that follows the graph which a bridge reads.
use Rattle.std.specs.Prelude.{◌≡◌, ℕ, List, map, Bool, true, false, Contains}
use Rattle.std.specs.List.{list_any}
use Rattle.spb_types.specs.Ect.{mask_of}
use Rattle.spb_types.specs.Graph.{IsValid, joins}
use Rattle.spb_types.specs.declared.graph.Edge.{Edge}
use Rattle.spb_types.specs.declared.graph.Graph.{Graph}
use Rattle.spb_types.specs.declared.service.VidPlan.{VidPlan}
use Rattle.ect_trees.specs.Laws.{AreAlike, HasEdge}
use Rattle.fork_trees.specs.Set.{Kept}

-- the masks of the ECT algorithms of base VIDs
abbrev pub masks_of : List VidPlan → List ℕ
masks_of plans = map (λ plan. mask_of plan.ect) plans

-- the trees of a graph under these masks, all of them: the set's own graph is valid, with the bridges and the edges of
-- that one
pub record AreTreesOf (g : Graph) (masks : List ℕ) (s : Kept) : Type 0 where
  pub valid : IsValid s.graph
  pub bridges_are : s.graph.bridges ≡ g.bridges
  pub alike : AreAlike g s.graph
  pub masks_are : s.masks ≡ masks
  pub can : s.failed ≡ false

-- ---- the changes of edges

-- some edge of the graph joins the ends of this one
abbrev pub joins_ends : Graph → Edge → Bool
joins_ends g e = list_any (λ d. joins d e.a e.b) g.edges

-- changes that leave the bridges and the masks as they were
pub record Stays (old new : Kept) : Type 0 where
  pub bridges_are : new.graph.bridges ≡ old.graph.bridges
  pub masks_are : new.masks ≡ old.masks
  pub can : new.failed ≡ false

-- each edge of the set joins bridges that an edge of g joins
abbrev pub AllJoined : Graph → Graph → Type 0
AllJoined g h = (e : Edge) → Contains h.edges e → joins_ends g e ≡ true

-- the set has each of these edges
abbrev pub HasEach : List Edge → Graph → Type 0
HasEach es h = (e : Edge) → Contains es e → HasEdge h e
