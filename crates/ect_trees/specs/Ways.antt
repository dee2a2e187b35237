-- Ways that are told by the last step of each: the way to a place is that to the place before it, and the place.
use Rattle.std.specs.Prelude.{◌≡◌, ℕ, zero, suc, ◌+◌, List, [], ◌∷◌, ◌++◌, length, map, Option, Some, None, option_map, ◌⊎◌}
use Rattle.std.specs.List.{slice_index_or}
use Rattle.std.specs.declared.cmp.Ordering.{Ordering}
use Rattle.std.specs.Cmp.Lexicographic.{slice_cmp}
use Rattle.spb_types.specs.Graph.{systems_of}
use Rattle.spb_types.specs.declared.address.SystemId.{SystemId}
use Rattle.spb_types.specs.declared.graph.Graph.{Graph}
use Rattle.ect_trees.specs.declared.mesh.Arc.{Arc}
use Rattle.ect_trees.specs.declared.mesh.Mesh.{Mesh}
use Rattle.ect_trees.specs.declared.ways.Step.{Step}
use Rattle.ect_trees.specs.Key.{id_cmp, masked_id, sorted_ids}
use Rattle.ect_trees.specs.Arcs.{IsBridgeAt, IsArcAt, AreReady, rows_of, place_in}

-- the step to a place
abbrev pub step_at : List (Option Step) → ℕ → Option Step
step_at steps place = slice_index_or steps place None

abbrev pub before_of : Option Step → ℕ
before_of None = 0
before_of (Some s) = s.before

-- the place before another
abbrev pub place_before : List (Option Step) → ℕ → ℕ
place_before steps place = before_of (step_at steps place)

-- the number of hops of a way, or most where there is none
abbrev pub hops_or : Option Step → ℕ → ℕ
hops_or None most = most
hops_or (Some s) most = s.hops

-- the bridge at a place, a past the last
abbrev pub bridge_at : Graph → SystemId → ℕ → SystemId
bridge_at g a place = slice_index_or (systems_of g.bridges) place a

-- the bridges on the way of n hops that ends at a place
abbrev pub way_back : Graph → SystemId → List (Option Step) → ℕ → ℕ → List SystemId
way_back g a steps zero place = bridge_at g a place ∷ []
way_back g a steps (suc n) place = way_back g a steps n (place_before steps place) ++ bridge_at g a place ∷ []

-- the way from a to x, if there is a step to x
abbrev pub way_to : Graph → SystemId → List (Option Step) → SystemId → Option (List SystemId)
way_to g a steps x = option_map (λ s. way_back g a steps s.hops (place_in g.bridges x))
    (step_at steps (place_in g.bridges x))

-- the step of the source alone
pub record IsStart (from place : ℕ) (s : Step) : Type 0 where
  pub no_hop : s.hops ≡ 0
  pub place_is : place ≡ from
  pub cost_is : s.cost ≡ 0

-- the step leads on from another, along an arc to its place
pub record IsOnward (r : Mesh) (steps : List (Option Step)) (place : ℕ) (s : Step) : Type 0 where
  pub before : Step
  pub arc : Arc
  pub there : step_at steps s.before ≡ Some before
  pub listed : IsArcAt (rows_of r) s.before s.number arc
  pub to : arc.to ≡ place
  pub hops_are : s.hops ≡ before.hops + 1
  pub cost_is : s.cost ≡ before.cost + arc.cost

abbrev pub IsSound : Mesh → List (Option Step) → ℕ → ℕ → Step → Type 0
IsSound r steps from place s = IsStart from place s ⊎ IsOnward r steps place s

-- the steps make ways from the bridge a, which stands at this place of the graph
pub record AreWays (r : Mesh) (from : ℕ) (a : SystemId) (steps : List (Option Step)) : Type 0 where
  pub ready : AreReady r
  pub here : IsBridgeAt r.graph from a
  pub places : length steps ≡ length r.graph.bridges
  pub start : (s : Step) × (step_at steps from ≡ Some s) × (s.hops ≡ 0)
  pub each : (place : ℕ) (s : Step) → step_at steps place ≡ Some s → IsSound r steps from place s

-- a step to this place, of a way of n hops
abbrev pub HasHops : List (Option Step) → ℕ → ℕ → Type 0
HasHops steps n place = (s : Step) × (step_at steps place ≡ Some s) × (s.hops ≡ n)

-- the masked ids of these bridges in ascending order
abbrev pub ids_of : Graph → ℕ → List SystemId → List (List ℕ)
ids_of g mask bridges = sorted_ids (map (masked_id g mask) bridges)

-- the order of the ways of n hops that end at two places, by their ids
abbrev pub Compares : Mesh → ℕ → List (Option Step) → ℕ → ℕ → ℕ → Ordering → Type 0
Compares r mask steps n p q order = (from : ℕ) (a : SystemId) → AreWays r from a steps
    → HasHops steps n p → HasHops steps n q
    → order ≡ slice_cmp id_cmp (ids_of r.graph mask (way_back r.graph a steps n p))
    (ids_of r.graph mask (way_back r.graph a steps n q))
