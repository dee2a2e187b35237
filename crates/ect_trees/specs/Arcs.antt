-- A graph as it is searched: the places of its bridges, and the arcs from each.
use Rattle.std.specs.Prelude.{◌≡◌, ℕ, ◌<◌, List, [], ◌∷◌, length, map, Some, slice_get}
use Rattle.std.specs.List.{position_or_len, slice_index_or, AllByRecursion}
use Rattle.spb_types.specs.Address.{same_system}
use Rattle.spb_types.specs.Graph.{systems_of, cost_between, IsValid}
use Rattle.spb_types.specs.declared.address.SystemId.{SystemId}
use Rattle.spb_types.specs.declared.graph.GraphBridge.{GraphBridge}
use Rattle.spb_types.specs.declared.graph.Edge.{Edge}
use Rattle.spb_types.specs.declared.graph.Graph.{Graph}
use Rattle.ect_trees.specs.declared.mesh.Arc.{Arc}
use Rattle.ect_trees.specs.declared.mesh.Mesh.{Mesh}

-- the bridge x stands at this place of the graph
abbrev pub IsBridgeAt : Graph → ℕ → SystemId → Type 0
IsBridgeAt g place x = slice_get (systems_of g.bridges) place ≡ Some x

-- the place of the first bridge with this system id
abbrev pub place_in : List GraphBridge → SystemId → ℕ
place_in bridges x = position_or_len (λ b. same_system b.id.system x) bridges

-- both directions of each edge
abbrev pub arcs_of : List GraphBridge → List Edge → List Arc
arcs_of bridges [] = []
arcs_of bridges (e ∷ es) = record { from = place_in bridges e.a; to = place_in bridges e.b; cost = e.cost }
    ∷ record { from = place_in bridges e.b; to = place_in bridges e.a; cost = e.cost }
    ∷ arcs_of bridges es

-- the arc leads along an edge of the graph from x to y
pub record Leads (g : Graph) (arc : Arc) (x y : SystemId) : Type 0 where
  pub from : IsBridgeAt g arc.from x
  pub to : IsBridgeAt g arc.to y
  pub cost : cost_between g x y ≡ Some arc.cost

-- the arc leads along an edge of the graph
abbrev pub CanGo : Graph → Arc → Type 0
CanGo g arc = (x : SystemId) × (y : SystemId) × Leads g arc x y

-- each arc starts at one of these places
abbrev pub StartWithin : ℕ → List Arc → Type 0
StartWithin places arcs = AllByRecursion (λ arc. arc.from < places) arcs

-- an arc of this number stands in the row of this place
abbrev pub IsArcAt : List (List Arc) → ℕ → ℕ → Arc → Type 0
IsArcAt rows place number arc = slice_get (slice_index_or rows place []) number ≡ Some arc

-- the first n of the arcs stand in rows, each in that of the place where it starts, and no other arc does
pub record AreGrouped (places n : ℕ) (arcs : List Arc) (rows : List (List Arc)) : Type 0 where
  pub long : length rows ≡ places
  pub among : (place number : ℕ) (arc : Arc) → IsArcAt rows place number arc
      → (arc.from ≡ place) × (at : ℕ) × (slice_get arcs at ≡ Some arc)
  pub each : (at : ℕ) (arc : Arc) → at < n → slice_get arcs at ≡ Some arc
      → (number : ℕ) × IsArcAt rows arc.from number arc

-- the arcs from each place
abbrev pub rows_of : Mesh → List (List Arc)
rows_of r = map (λ row. row.items) r.arcs.items

-- the graph is valid; each arc leads along an edge from the place where it stands; and for each edge there is one
pub record AreReady (r : Mesh) : Type 0 where
  pub valid : IsValid r.graph
  pub places : length r.arcs.items ≡ length r.graph.bridges
  pub lead : (place number : ℕ) (arc : Arc) → IsArcAt (rows_of r) place number arc
      → (arc.from ≡ place) × CanGo r.graph arc
  pub go : (x y : SystemId) (place cost : ℕ) → cost_between r.graph x y ≡ Some cost
      → IsBridgeAt r.graph place x
      → (number : ℕ) × (arc : Arc) × IsArcAt (rows_of r) place number arc × Leads r.graph arc x y

-- a graph with its arcs that is ready, made of this graph
pub record LeadThrough (g : Graph) (r : Mesh) : Type 0 where
  pub ready : AreReady r
  pub graph_is : r.graph ≡ g
