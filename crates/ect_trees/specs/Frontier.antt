-- The search by a frontier: what holds between two bridges taken out of it, and while the edges of one are looked at.
-- It is said of functions: way gives the path found so far, and waits says which bridges stand in the frontier.
use Rattle.std.specs.Prelude.{◌≡◌, ◌≢◌, ◌⊎◌, ℕ, ◌≤◌, List, [], ◌∷◌, ◌++◌, Option, Some, IsSome}
use Rattle.spb_types.specs.Graph.{IsAmong, IsDistinct, IsBridge, cost_between}
use Rattle.spb_types.specs.declared.address.SystemId.{SystemId}
use Rattle.spb_types.specs.declared.graph.Graph.{Graph}
use Rattle.ect_trees.specs.Path.{IsPath, cost_of}
use Rattle.ect_trees.specs.Low.{LowAt}

-- the way to z is there and costs at most c
abbrev pub CostsAtMost : Graph → (SystemId → Option (List SystemId)) → SystemId → ℕ → Type 0
CostsAtMost g way z c = (q : List SystemId) × (way z ≡ Some q) × (cost_of g q ≤ c)

-- each way is a path, those that wait have one, and where an edge leads on from a way, the longer path isn't below the
-- way to its end, unless the edge's start waits. No way to a bridge that is done costs more than one that waits.
pub record Front (g : Graph) (mask : ℕ) (a : SystemId) (done : List SystemId) (waits : SystemId → Type 0)
    (way : SystemId → Option (List SystemId)) : Type 0 where
  pub start : way a ≡ Some (a ∷ [])
  pub paths : (x : SystemId) (p : List SystemId) → way x ≡ Some p → IsPath g a x p
  pub held : (x : SystemId) → waits x → (p : List SystemId) × (way x ≡ Some p)
  pub low : (x y : SystemId) (p : List SystemId) → way x ≡ Some p → IsSome (cost_between g x y)
      → (IsAmong y p → ⊥) → LowAt g mask way y (p ++ y ∷ []) ⊎ waits x
  pub apart : IsDistinct done
  pub bridges : (z : SystemId) → IsAmong z done → IsBridge g z
  pub above : (z x : SystemId) (p : List SystemId) → IsAmong z done → waits x → way x ≡ Some p
      → CostsAtMost g way z (cost_of g p)
  pub settled : (z : SystemId) → IsAmong z done → (q : List SystemId) × (way z ≡ Some q)
  pub out : (z : SystemId) → IsAmong z done → waits z → ⊥

-- the same while the edges of x, which was taken out with the way p, are looked at: edges to what is left are to come
pub record During (g : Graph) (mask : ℕ) (a : SystemId) (done : List SystemId) (x : SystemId) (p : List SystemId)
    (waits left : SystemId → Type 0) (way : SystemId → Option (List SystemId)) : Type 0 where
  pub start : way a ≡ Some (a ∷ [])
  pub paths : (u : SystemId) (q : List SystemId) → way u ≡ Some q → IsPath g a u q
  pub held : (u : SystemId) → waits u → (q : List SystemId) × (way u ≡ Some q)
  pub own : way x ≡ Some p
  pub low : (u v : SystemId) (q : List SystemId) → way u ≡ Some q → IsSome (cost_between g u v)
      → (IsAmong v q → ⊥) → LowAt g mask way v (q ++ v ∷ []) ⊎ (waits u ⊎ ((u ≡ x) × left v))
  pub apart : IsDistinct done
  pub bridges : (z : SystemId) → IsAmong z done → IsBridge g z
  pub below : (z : SystemId) → IsAmong z done → CostsAtMost g way z (cost_of g p)
  pub above : (z : SystemId) (q : List SystemId) → waits z → way z ≡ Some q → cost_of g p ≤ cost_of g q
  pub out : (z : SystemId) → IsAmong z done → waits z → ⊥

-- now holds of what waits, without x
pub record WithoutOne (x : SystemId) (waits now : SystemId → Type 0) : Type 0 where
  pub others : (z : SystemId) → waits z → (z ≡ x) ⊎ now z
  pub kept : (z : SystemId) → now z → waits z
  pub gone : now x → ⊥

-- more holds of what waits, and of y
pub record WithOne (y : SystemId) (waits more : SystemId → Type 0) : Type 0 where
  pub here : more y
  pub others : (z : SystemId) → more z → (z ≡ y) ⊎ waits z
  pub kept : (z : SystemId) → waits z → more z

-- y has the way r now, and all others the ways that they had
pub record WithWay (y : SystemId) (r : List SystemId) (way next : SystemId → Option (List SystemId)) : Type 0 where
  pub here : next y ≡ Some r
  pub others : (z : SystemId) → z ≢ y → next z ≡ way z
