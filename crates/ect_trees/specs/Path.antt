use Rattle.std.specs.Prelude.{◌≡◌, ℕ, ◌+◌, ◌-◌, List, [], ◌∷◌, length, unwrap_or, IsSome}
use Rattle.spb_types.specs.declared.address.SystemId.{SystemId}
use Rattle.spb_types.specs.declared.graph.Graph.{Graph}
use Rattle.spb_types.specs.Graph.{IsBridge, IsDistinct, cost_between}

-- Leads g a xs b: the list a ∷ xs is a walk of the graph that ends at b: each two neighbours are joined by an edge
abbrev pub Leads : Graph → SystemId → List SystemId → SystemId → Type 0
Leads g a [] b = IsBridge g a × (a ≡ b)
Leads g a (x ∷ xs) b = IsBridge g a × IsSome (cost_between g a x) × Leads g x xs b

-- a path from a to b: a list of distinct bridges, the first a and the last b, each two neighbours joined by an edge
abbrev pub IsPath : Graph → SystemId → SystemId → List SystemId → Type 0
IsPath g a b [] = ⊥
IsPath g a b (x ∷ xs) = (x ≡ a) × Leads g x xs b × IsDistinct (x ∷ xs)

-- the sum of the costs of the edges along x ∷ xs
abbrev pub cost_along : Graph → SystemId → List SystemId → ℕ
cost_along g x [] = 0
cost_along g x (y ∷ ys) = unwrap_or (cost_between g x y) 0 + cost_along g y ys

-- the sum of the costs of a path's edges
abbrev pub cost_of : Graph → List SystemId → ℕ
cost_of g [] = 0
cost_of g (x ∷ xs) = cost_along g x xs

-- the number of a path's edges
abbrev pub hops_of : List SystemId → ℕ
hops_of p = length p - 1
