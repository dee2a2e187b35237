-- One way to each bridge that has a path, low at every edge: these are the best paths.
use Rattle.std.specs.Prelude.{◌≡◌, ℕ, List, [], ◌∷◌, ◌++◌, Option, Some, IsSome}
use Rattle.spb_types.specs.Graph.{IsAmong, IsBridge, IsValid, cost_between}
use Rattle.spb_types.specs.declared.address.SystemId.{SystemId}
use Rattle.spb_types.specs.declared.graph.Graph.{Graph}
use Rattle.ect_trees.specs.Path.{IsPath}
use Rattle.ect_trees.specs.Key.{key_of, IsBelow}
use Rattle.ect_trees.specs.Best.{best_of}

-- there is a way to y, and the key of r isn't below its key
abbrev pub LowAt : Graph → ℕ → (SystemId → Option (List SystemId)) → SystemId → List SystemId → Type 0
LowAt g mask way y r = (q : List SystemId) × (way y ≡ Some q) × (IsBelow (key_of g mask r) (key_of g mask q) → ⊥)

-- the way from a to itself is a alone; each way is a path; and where an edge leads from the end of a way to a bridge
-- that isn't on it, the longer path isn't below the way to that bridge
pub record AreLow (g : Graph) (mask : ℕ) (a : SystemId) (way : SystemId → Option (List SystemId)) : Type 0 where
  pub start : way a ≡ Some (a ∷ [])
  pub paths : (x : SystemId) (p : List SystemId) → way x ≡ Some p → IsPath g a x p
  pub low : (x y : SystemId) (p : List SystemId) → way x ≡ Some p → IsSome (cost_between g x y)
      → (IsAmong y p → ⊥) → LowAt g mask way y (p ++ y ∷ [])

-- ways that are low at every edge are the best paths
abbrev pub LowIsBest : Type 0
LowIsBest = (g : Graph) (mask : ℕ) (a : SystemId) (way : SystemId → Option (List SystemId))
    → IsValid g → AreLow g mask a way → (x : SystemId) → way x ≡ best_of g mask a x

-- the best paths are low at every edge
abbrev pub BestIsLow : Type 0
BestIsLow = (g : Graph) (mask : ℕ) (a : SystemId)
    → IsValid g → IsBridge g a → AreLow g mask a (λ x. best_of g mask a x)
