-- What a look at the steps of ways says.
use Rattle.std.specs.Prelude.{◌≡◌, ℕ, ◌<◌, List, [], ◌∷◌, ◌++◌, Option, None, Some, ⊤}
use Rattle.spb_types.specs.declared.address.SystemId.{SystemId}
use Rattle.spb_types.specs.declared.graph.Graph.{Graph}
use Rattle.ect_trees.specs.declared.mesh.Arc.{Arc}
use Rattle.ect_trees.specs.declared.mesh.Mesh.{Mesh}
use Rattle.ect_trees.specs.declared.ways.Step.{Step}
use Rattle.ect_trees.specs.declared.trial.Compared.{Compared}
use Rattle.ect_trees.specs.declared.trial.Verdict.{Verdict}
use Rattle.ect_trees.specs.Key.{key_of, IsBelow}
use Rattle.ect_trees.specs.Best.{best_of}
use Rattle.ect_trees.specs.Arcs.{IsBridgeAt, IsArcAt, AreReady, rows_of}
use Rattle.ect_trees.specs.Ways.{step_at, way_back, way_to, IsSound, AreWays, Compares}

-- each step to one of the first k places is sound
abbrev pub AreSound : Mesh → List (Option Step) → ℕ → ℕ → Type 0
AreSound r steps from k = (place : ℕ) (s : Step) → place < k → step_at steps place ≡ Some s
    → IsSound r steps from place s

-- steps that make ways from the bridge at a place, where the mesh is ready and a bridge stands there
abbrev pub MakeWays : Mesh → List (Option Step) → ℕ → Type 0
MakeWays r steps from = (a : SystemId) → AreReady r → IsBridgeAt r.graph from a → AreWays r from a steps

-- what is said under one mask is said under the mask m too
abbrev pub Covers : ℕ → Verdict → ℕ → Type 0
Covers mask Verdict.Wrong m = ⊥
Covers mask Verdict.Tied m = m ≡ mask
Covers mask Verdict.Untied m = ⊤

-- what is known of the order of the ways of n hops to a place and to another
abbrev pub IsCompared : Mesh → ℕ → List (Option Step) → ℕ → ℕ → Option Compared → Type 0
IsCompared r mask steps n place None = ⊤
IsCompared r mask steps n place (Some c) = Compares r mask steps n place c.other c.order

-- there is a step to the end of the arc, and under the mask m the way by the arc from this place isn't below its way
pub record IsLowOver (g : Graph) (a : SystemId) (steps : List (Option Step)) (m place : ℕ) (s : Step) (arc : Arc)
    : Type 0 where
  pub end : Step
  pub there : step_at steps arc.to ≡ Some end
  pub low : (y : SystemId) → IsBridgeAt g arc.to y
      → IsBelow (key_of g m (way_back g a steps s.hops place ++ y ∷ []))
      (key_of g m (way_back g a steps end.hops arc.to)) → ⊥

-- the same of an arc that leads on from the end of a way
abbrev pub ArcIsLow : Mesh → ℕ → List (Option Step) → ℕ → Step → Arc → Verdict → Type 0
ArcIsLow r mask steps place s arc v = (from : ℕ) (a : SystemId) (number : ℕ) → AreWays r from a steps
    → step_at steps place ≡ Some s → IsArcAt (rows_of r) place number arc
    → (m : ℕ) → Covers mask v m → IsLowOver r.graph a steps m place s arc

-- the same of the first k arcs
abbrev pub ArcsAreLow : Mesh → ℕ → List (Option Step) → ℕ → Step → ℕ → Verdict → Type 0
ArcsAreLow r mask steps place s k v = (from : ℕ) (a : SystemId) (number : ℕ) (arc : Arc) → AreWays r from a steps
    → step_at steps place ≡ Some s → number < k → IsArcAt (rows_of r) place number arc
    → (m : ℕ) → Covers mask v m → IsLowOver r.graph a steps m place s arc

-- the same of each arc from the end of a way
abbrev pub PlaceIsLow : Mesh → ℕ → List (Option Step) → ℕ → Step → Verdict → Type 0
PlaceIsLow r mask steps place s v = (from : ℕ) (a : SystemId) (number : ℕ) (arc : Arc) → AreWays r from a steps
    → step_at steps place ≡ Some s → IsArcAt (rows_of r) place number arc
    → (m : ℕ) → Covers mask v m → IsLowOver r.graph a steps m place s arc

-- the same of the first k places
abbrev pub PlacesAreLow : Mesh → ℕ → List (Option Step) → ℕ → Verdict → Type 0
PlacesAreLow r mask steps k v = (place : ℕ) (s : Step) → place < k → PlaceIsLow r mask steps place s v

-- the ways are the best ones under each mask of which this is said
abbrev pub AreBestWays : Mesh → ℕ → ℕ → List (Option Step) → Verdict → Type 0
AreBestWays r mask from steps v = (a : SystemId) → AreReady r → IsBridgeAt r.graph from a
    → (m : ℕ) → Covers mask v m
    → AreWays r from a steps × ((x : SystemId) → way_to r.graph a steps x ≡ best_of r.graph m a x)
