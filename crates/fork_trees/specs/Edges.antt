-- A graph in which the edge between two bridges is set, changed or removed.
use Rattle.std.specs.Prelude.{◌≡◌, ◌⊎◌, ◌↔◌, ℕ, Contains, if◌then◌else◌, List, [], ◌∷◌, Bool, true, false, not, filter, Option, Some, None}
use Rattle.spb_types.specs.Graph.{joins, cost_between, IsEdgeOf, IsValid}
use Rattle.spb_types.specs.declared.address.SystemId.{SystemId}
use Rattle.spb_types.specs.declared.graph.Edge.{Edge}
use Rattle.spb_types.specs.declared.graph.Graph.{Graph}

-- the edges that don't join the ends of e
abbrev pub others : Edge → List Edge → List Edge
others e es = filter (λ f. not (joins e f.a f.b)) es

-- the edges once e stands between its ends, or once no edge does
abbrev pub edges_with : List Edge → Edge → Bool → List Edge
edges_with es e true = e ∷ others e es
edges_with es e false = others e es

-- the graph with these edges; it has no members, which say nothing of trees
abbrev pub with_edge : Graph → Edge → Bool → Graph
with_edge g e present = record { bridges = g.bridges; edges = edges_with g.edges e present; members = [] }

-- the changed graph is valid again
abbrev pub StaysValid : Type 0
StaysValid = (g : Graph) (e : Edge) (present : Bool) → IsValid g → IsEdgeOf g e → IsValid (with_edge g e present)

-- an edge stands in the changed graph exactly where it is the one that is set, or stood there before and joins other
-- bridges
abbrev pub EdgesStand : Type 0
EdgesStand = (g : Graph) (e f : Edge) (present : Bool) → Contains (with_edge g e present).edges f
    ↔ ((f ≡ e) × (present ≡ true)) ⊎ (Contains g.edges f × (joins e f.a f.b ≡ false))

-- the cost of e if it is present
abbrev pub cost_if : Bool → Edge → Option ℕ
cost_if true e = Some e.cost
cost_if false e = None

-- the cost between the ends of e stays as it is when e is set, or removed
abbrev pub KeepsCost : Graph → Edge → Bool → Type 0
KeepsCost g e present = cost_between g e.a e.b ≡ cost_if present e

-- between the ends of e the changed graph has its cost, or none, and between other bridges the cost that there was
abbrev pub CostsChangeThere : Type 0
CostsChangeThere = (g : Graph) (e : Edge) (present : Bool) (x y : SystemId) → cost_between (with_edge g e present) x y
    ≡ if joins e x y then cost_if present e else cost_between g x y
