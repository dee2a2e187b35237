use Rattle.std.specs.Prelude.{◌≡◌, ◌≢◌, ℕ, ◌≤◌, List, [], ◌∷◌, length, map, Bool, false, ◌&&◌, ◌||◌, Option, Some, None, if◌then◌else◌, ◌⊎◌, ⊤}
use Rattle.std.specs.List.{AllByRecursion}
use Rattle.spb_types.specs.Address.{same_system}
use Rattle.spb_types.specs.declared.address.SystemId.{SystemId}
use Rattle.spb_types.specs.declared.graph.GraphBridge.{GraphBridge}
use Rattle.spb_types.specs.declared.graph.Edge.{Edge}
use Rattle.spb_types.specs.declared.graph.Graph.{Graph}
use Rattle.spb_types.specs.declared.limits.TheConstants.{GREATEST_METRIC, MOST_GRAPH_BRIDGES, MOST_PORTS}

-- one of these system ids is x
abbrev pub IsAmong : SystemId → List SystemId → Type 0
IsAmong x [] = ⊥
IsAmong x (y ∷ ys) = (x ≡ y) ⊎ IsAmong x ys

-- no system id stands twice in the list
abbrev pub IsDistinct : List SystemId → Type 0
IsDistinct [] = ⊤
IsDistinct (x ∷ xs) = (IsAmong x xs → ⊥) × IsDistinct xs

-- the system ids of the bridges, in order
abbrev pub systems_of : List GraphBridge → List SystemId
systems_of bridges = map (λ b. b.id.system) bridges

-- x is a bridge of the graph
abbrev pub IsBridge : Graph → SystemId → Type 0
IsBridge g x = IsAmong x (systems_of g.bridges)

-- whether the edge joins x and y, whichever of its ends is which
abbrev pub joins : Edge → SystemId → SystemId → Bool
joins e x y = (same_system e.a x && same_system e.b y) || (same_system e.a y && same_system e.b x)

-- the cost of the first of the edges that joins x and y
abbrev pub cost_among : List Edge → SystemId → SystemId → Option ℕ
cost_among [] x y = None
cost_among (e ∷ es) x y = if joins e x y then Some e.cost else cost_among es x y

-- the cost of the edge between x and y, if there is one
abbrev pub cost_between : Graph → SystemId → SystemId → Option ℕ
cost_between g x y = cost_among g.edges x y

-- an edge between x and y has this port at x
abbrev pub port_at : Edge → SystemId → ℕ
port_at e x = if same_system e.a x then e.port_a else e.port_b

-- the port at x of the first of the edges that joins x and y
abbrev pub port_among : List Edge → SystemId → SystemId → Option ℕ
port_among [] x y = None
port_among (e ∷ es) x y = if joins e x y then Some (port_at e x) else port_among es x y

-- the port at x of the edge between x and y, if there is one
abbrev pub port_between : Graph → SystemId → SystemId → Option ℕ
port_between g x y = port_among g.edges x y

-- no two of the edges join the same two bridges: no earlier one joins the ends of a later one
abbrev pub OneEdge : List Edge → Type 0
OneEdge [] = ⊤
OneEdge (e ∷ es) = AllByRecursion (λ f. joins e f.a f.b ≡ false) es × OneEdge es

-- the edge joins two different bridges of the graph, at a cost that a link can have
pub record IsEdgeOf (g : Graph) (e : Edge) : Type 0 where
  pub from : IsBridge g e.a
  pub to : IsBridge g e.b
  pub apart : same_system e.a e.b ≡ false
  pub low : 1 ≤ e.cost
  pub high : e.cost ≤ GREATEST_METRIC

-- a graph: bridges with system ids of their own, at most one edge between two of them, and members among them
pub record IsValid (g : Graph) : Type 0 where
  pub few : length g.bridges ≤ MOST_GRAPH_BRIDGES
  pub apart : IsDistinct (systems_of g.bridges)
  pub edges : AllByRecursion (λ e. IsEdgeOf g e) g.edges
  pub one_edge : OneEdge g.edges
  pub members : AllByRecursion (λ m. IsBridge g m.system) g.members

-- the edges at x
abbrev pub edges_at : List Edge → SystemId → List Edge
edges_at [] x = []
edges_at (e ∷ es) x = if same_system e.a x || same_system e.b x then e ∷ edges_at es x else edges_at es x

-- each edge at x has a port of 1 to 32 there
abbrev pub ArePorts : List Edge → SystemId → Type 0
ArePorts es x = AllByRecursion (λ e. (1 ≤ port_at e x) × (port_at e x ≤ MOST_PORTS)) (edges_at es x)

-- the edges at x have different ports there
abbrev pub ArePortsApart : List Edge → SystemId → Type 0
ArePortsApart [] x = ⊤
ArePortsApart (e ∷ es) x = AllByRecursion (λ f. port_at e x ≢ port_at f x) es × ArePortsApart es x

-- a valid graph whose ports at `me` are ports of a bridge, a different one for each edge
pub record IsValidFor (g : Graph) (me : SystemId) : Type 0 where
  pub valid : IsValid g
  pub ports : ArePorts g.edges me
  pub ports_apart : ArePortsApart (edges_at g.edges me) me
