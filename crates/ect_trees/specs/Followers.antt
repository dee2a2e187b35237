-- The bridges that directly follow a bridge on best paths.
use Rattle.std.specs.Prelude.{◌≡◌, ℕ, ◌==◌, ◌<◌, Bool, false, List, [], ◌∷◌, length, Option, Some, None, option_map, option_and_then, unwrap_or, position, if◌then◌else◌}
use Rattle.spb_types.specs.Address.{same_system}
use Rattle.spb_types.specs.declared.address.SystemId.{SystemId}
use Rattle.spb_types.specs.declared.graph.Graph.{Graph}
use Rattle.ect_trees.specs.declared.mesh.Arc.{Arc}
use Rattle.ect_trees.specs.declared.mesh.Mesh.{Mesh}
use Rattle.ect_trees.specs.declared.ways.Step.{Step}
use Rattle.ect_trees.specs.Arcs.{IsBridgeAt, IsArcAt, rows_of}
use Rattle.ect_trees.specs.Tree.{Paths, path_in}
use Rattle.ect_trees.specs.Ways.{step_at, way_to, AreWays}
use Rattle.ect_trees.specs.Best.{best_of}

-- the bridge that directly follows m in a list of bridges
abbrev pub after_in : SystemId → List SystemId → Option SystemId
after_in m [] = None
after_in m (x ∷ []) = None
after_in m (x ∷ y ∷ ys) = if same_system x m then Some y else after_in m (y ∷ ys)

-- the place of a bridge in the graph, or the number of bridges where there is none
abbrev pub place_or_end : Graph → Option SystemId → ℕ
place_or_end g next = unwrap_or (option_and_then (λ x. position (λ b. same_system b.id.system x) g.bridges) next)
    (length g.bridges)

-- the place of the bridge that directly follows m on a list of bridges, if there is one
abbrev pub place_after : Graph → SystemId → Option (List SystemId) → ℕ
place_after g m way = place_or_end g (option_and_then (after_in m) way)

-- this is the place of the bridge that directly follows m on the best path from a source to the bridge at a place, or
-- the number of bridges where none does
abbrev pub IsFollower : Graph → ℕ → SystemId → SystemId → ℕ → ℕ → Type 0
IsFollower g mask source m to place = (x : SystemId) → IsBridgeAt g to x
    → place ≡ place_after g m (best_of g mask source x)

-- the same, where the source and m are told by their places
abbrev pub IsFollowerAt : Graph → ℕ → ℕ → ℕ → ℕ → ℕ → Type 0
IsFollowerAt g mask from me to place = (a m : SystemId) → IsBridgeAt g from a → IsBridgeAt g me m
    → IsFollower g mask a m to place

-- no bridge directly follows the one at the place me on a best path from the source
abbrev pub NoneFollows : Graph → ℕ → ℕ → ℕ → Type 0
NoneFollows g mask from me = (to : ℕ) → IsFollowerAt g mask from me to (length g.bridges)

-- ---- by ways

-- this is the place that directly follows m on the way to the bridge at a place
abbrev pub FollowsOnWay : Mesh → List (Option Step) → ℕ → ℕ → ℕ → Type 0
FollowsOnWay r steps me to place = (from : ℕ) (a m x : SystemId) → AreWays r from a steps
    → IsBridgeAt r.graph me m → IsBridgeAt r.graph to x → place ≡ place_after r.graph m (way_to r.graph a steps x)

-- whether a step leads on from this place
abbrev pub is_before : Option Step → ℕ → Bool
is_before None me = false
is_before (Some s) me = s.before == me

-- none of the first k arcs from the place me leads to one whose step leads on from there
abbrev pub NoneBefore : Mesh → List (Option Step) → ℕ → ℕ → Type 0
NoneBefore r steps me k = (number : ℕ) (arc : Arc) → number < k → IsArcAt (rows_of r) me number arc
    → is_before (step_at steps arc.to) me ≡ false

-- no bridge directly follows the one at the place me on a way over a mesh of this graph
abbrev pub NoneOnWays : Graph → List (Option Step) → ℕ → Type 0
NoneOnWays g steps me = (r : Mesh) (to : ℕ) → r.graph ≡ g → FollowsOnWay r steps me to (length r.graph.bridges)

-- ---- by the whole paths of a tree

-- this is the place that directly follows m on the path of the tree to the bridge at a place
abbrev pub FollowsInTree : Graph → Paths → SystemId → ℕ → ℕ → Type 0
FollowsInTree g tree m to place = (x : SystemId) → IsBridgeAt g to x
    → place ≡ place_after g m (option_map (λ p. p.bridges) (path_in tree.paths x))
