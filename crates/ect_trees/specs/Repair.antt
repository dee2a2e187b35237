-- What repairing a tree does to its labels.
use Rattle.std.specs.Prelude.{◌≡◌, ℕ, ◌+◌, ◌≤◌, List, [], ◌∷◌, ◌++◌, length, Bool, true, false, Option, Some, None, IsSome, ◌⊎◌, ⊤}
use Rattle.spb_types.specs.Graph.{IsAmong, cost_between}
use Rattle.spb_types.specs.declared.address.SystemId.{SystemId}
use Rattle.spb_types.specs.declared.graph.Graph.{Graph}
use Rattle.ect_trees.specs.declared.mesh.Arc.{Arc}
use Rattle.ect_trees.specs.declared.mesh.Mesh.{Mesh}
use Rattle.ect_trees.specs.declared.search.Label.{Label}
use Rattle.ect_trees.specs.declared.search.Search.{Search}
use Rattle.ect_trees.specs.declared.waiting.Waiting.{Waiting}
use Rattle.ect_trees.specs.Path.{IsPath}
use Rattle.ect_trees.specs.Low.{LowAt}
use Rattle.ect_trees.specs.Arcs.{IsBridgeAt, CanGo}
use Rattle.ect_trees.specs.Search.{graph_of, label_at, way_of, waits_of, IsFront}

-- x and y are a and b, whichever is which
abbrev pub ArePair : SystemId → SystemId → SystemId → SystemId → Type 0
ArePair a b x y = ((x ≡ a) × (y ≡ b)) ⊎ ((x ≡ b) × (y ≡ a))

-- no two neighbours of the list are a and b
abbrev pub Avoids : SystemId → SystemId → List SystemId → Type 0
Avoids a b [] = ⊤
Avoids a b (x ∷ []) = ⊤
Avoids a b (x ∷ y ∷ ys) = (ArePair a b x y → ⊥) × Avoids a b (y ∷ ys)

-- the ways that step from a to b or back are dropped, and the others kept
pub record IsForgotten (a b : SystemId) (way now : SystemId → Option (List SystemId)) : Type 0 where
  pub kept : (x : SystemId) (p : List SystemId) → way x ≡ Some p → Avoids a b p → now x ≡ Some p
  pub was : (x : SystemId) (p : List SystemId) → now x ≡ Some p → (way x ≡ Some p) × Avoids a b p

-- each way is a path, those that wait have one, and where an edge leads on from a way, the longer path isn't below the
-- way to its end, unless the edge's start waits or the edge is left to be looked at
pub record Reaching (g : Graph) (mask : ℕ) (a : SystemId) (waits : SystemId → Type 0)
    (left : SystemId → SystemId → Type 0) (way : SystemId → Option (List SystemId)) : Type 0 where
  pub start : way a ≡ Some (a ∷ [])
  pub paths : (x : SystemId) (p : List SystemId) → way x ≡ Some p → IsPath g a x p
  pub held : (x : SystemId) → waits x → (p : List SystemId) × (way x ≡ Some p)
  pub low : (x y : SystemId) (p : List SystemId) → way x ≡ Some p → IsSome (cost_between g x y)
      → (IsAmong y p → ⊥) → LowAt g mask way y (p ++ y ∷ []) ⊎ (waits x ⊎ left x y)

-- whether there is a label, and its path steps from a to b or back
abbrev pub TellsLost : SystemId → SystemId → Option Label → Bool → Type 0
TellsLost a b o true = (l : Label) × (o ≡ Some l) × (Avoids a b l.bridges.items → ⊥)
TellsLost a b o false = (l : Label) → o ≡ Some l → Avoids a b l.bridges.items

-- the labels whose path steps from a to b or back are gone, and no others
pub record AreForgotten (a b : SystemId) (ls ls' : List (Option Label)) : Type 0 where
  pub places : length ls' ≡ length ls
  pub kept : (place : ℕ) (l : Label) → label_at ls place ≡ Some l → Avoids a b l.bridges.items
      → label_at ls' place ≡ Some l
  pub was : (place : ℕ) (l : Label) → label_at ls' place ≡ Some l
      → (label_at ls place ≡ Some l) × Avoids a b l.bridges.items

-- the arc in the other direction
abbrev pub turned : Arc → Arc
turned arc = record { from = arc.to; to = arc.from; cost = arc.cost }

-- the arc leads along an edge from one place to another
pub record IsArcBetween (r : Mesh) (from to : ℕ) (arc : Arc) : Type 0 where
  pub from_is : arc.from ≡ from
  pub to_is : arc.to ≡ to
  pub leads : CanGo r.graph arc

-- no edge is between the bridges at two places
abbrev pub IsNoneBetween : Mesh → ℕ → ℕ → Type 0
IsNoneBetween r from to = (x y : SystemId) → IsBridgeAt r.graph from x → IsBridgeAt r.graph to y
    → IsSome (cost_between r.graph x y) → ⊥

-- the labels and those that wait, where some edges are left to be looked at
abbrev pub IsReaching : Search → (SystemId → SystemId → Type 0) → List (Option Label) → List Waiting → Type 0
IsReaching s left ls front = Reaching (graph_of s) s.mask s.source (waits_of s front) left (way_of s ls)

-- the edge leads into a bridge without a label, at the place k or a later one, or is that between a and b
abbrev pub IsUnreached : Search → SystemId → SystemId → ℕ → List (Option Label) → SystemId → SystemId → Type 0
IsUnreached s a b k ls u v = ((place : ℕ) × (k ≤ place) × IsBridgeAt (graph_of s) place v × (label_at ls place ≡ None))
    ⊎ ArePair a b u v

-- the edges into the bridge at a place are looked at
abbrev pub ReachesPlace : Search → ℕ → List (Option Label) → List (Option Label) → List Waiting → List Waiting
    → Type 0
ReachesPlace s place ls ls' front front' = (a b : SystemId) → IsReaching s (IsUnreached s a b place ls) ls front
    → IsReaching s (IsUnreached s a b (place + 1) ls') ls' front'

-- the edges into all bridges without a label are looked at
abbrev pub ReachesLost : Search → List (Option Label) → List (Option Label) → List Waiting → List Waiting → Type 0
ReachesLost s ls ls' front front' = (a b : SystemId) → IsReaching s (IsUnreached s a b 0 ls) ls front
    → IsReaching s (ArePair a b) ls' front'

-- so is the edge between the bridges at two places, if there is one, both ways
abbrev pub ReachesEdge : Search → ℕ → ℕ → List (Option Label) → List (Option Label) → List Waiting → List Waiting
    → Type 0
ReachesEdge s from to ls ls' front front' = (a b : SystemId) → IsBridgeAt (graph_of s) from a
    → IsBridgeAt (graph_of s) to b → IsReaching s (ArePair a b) ls front → IsFront s ls' front' []

-- all of these are looked at
abbrev pub Reaches : Search → SystemId → SystemId → List (Option Label) → List (Option Label) → List Waiting
    → List Waiting → Type 0
Reaches s a b ls ls' front front' = IsReaching s (IsUnreached s a b 0 ls) ls front → IsFront s ls' front' []
