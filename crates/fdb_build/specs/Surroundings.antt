-- What a bridge's tables are read from.
use Rattle.std.specs.Prelude.{◌≡◌, ℕ, List, map, find, option_map, Option, Some, None, if◌then◌else◌}
use Rattle.spb_types.specs.Address.{same_system}
use Rattle.spb_types.specs.Graph.{systems_of, port_between, IsValidFor}
use Rattle.spb_types.specs.declared.graph.GraphBridge.{GraphBridge}
use Rattle.spb_types.specs.declared.address.SystemId.{SystemId}
use Rattle.spb_types.specs.declared.graph.Edge.{Edge}
use Rattle.spb_types.specs.declared.graph.Graph.{Graph}
use Rattle.ect_trees.specs.Arcs.{IsBridgeAt}
use Rattle.fdb_build.specs.Tables.{ascending_by, system_cmp}
use Rattle.fdb_build.specs.declared.surroundings.Neighbour.{Neighbour}
use Rattle.fdb_build.specs.declared.layout.Placed.{Placed}
use Rattle.fdb_build.specs.declared.surroundings.Surroundings.{Surroundings}

-- the neighbour that an edge joins to `me`, with the port at `me`, if the edge is at `me`
abbrev pub neighbour_by : SystemId → Edge → Option Neighbour
neighbour_by me e = if same_system e.a me then Some (record { system = e.b; port = e.port_a })
    else (if same_system e.b me then Some (record { system = e.a; port = e.port_b }) else None)

-- these are the bridges of the graph by ascending address
abbrev pub AreAscending : Graph → List Placed → Type 0
AreAscending g bridges = map (λ b. b.system) bridges ≡ ascending_by system_cmp (systems_of g.bridges)

-- the port towards a bridge, if it is one of the neighbours
abbrev pub port_by : List Neighbour → SystemId → Option ℕ
port_by neighbours x = option_map (λ n. n.port) (find (λ n. same_system n.system x) neighbours)

-- the ports towards the neighbours among these bridges, in the order of the bridges
abbrev pub ports_by : List Neighbour → List GraphBridge → List (Option ℕ)
ports_by neighbours bridges = map (λ b. port_by neighbours b.id.system) bridges

-- the graph is valid, with the ports of `me` in it; `me` stands at this place of the graph; and these are the ports of
-- `me` towards each bridge of the graph, in their order
pub record AreKnown (s : Surroundings) : Type 0 where
  pub valid : IsValidFor s.roads.now s.me
  pub here : IsBridgeAt s.roads.now s.place s.me
  pub ports : s.ports.items ≡ map (λ b. port_between s.roads.now s.me b.id.system) s.roads.now.bridges

-- what surrounds `me` in the graph
pub record Surround (g : Graph) (me : SystemId) (s : Surroundings) : Type 0 where
  pub known : AreKnown s
  pub graph_is : s.roads.now ≡ g
  pub me_is : s.me ≡ me
