-- Best paths in one graph that are kept.
use Rattle.std.specs.Prelude.{◌≡◌, ℕ, Bool, true, List, All, Option, is_some, slice_get}
use Rattle.std.specs.Global.{Vec}
use Rattle.std.specs.List.{find}
use Rattle.std.specs.Option.{option_and_then}
use Rattle.spb_types.specs.declared.graph.Graph.{Graph}
use Rattle.ect_trees.specs.declared.routes.Routes.{Routes}
use Rattle.ect_trees.specs.Routes.{AreRoutes, serve}

-- a graph, and the routes in it that are kept from the bridge at each place
pub record ForestView : Type 0 where
  pub graph : Graph
  pub rows : List (Vec Routes)

-- each of these routes is one in the graph
abbrev pub AreGrown : Graph → List (Vec Routes) → Type 0
AreGrown g rows = All (λ row. All (AreRoutes g) row.items) rows

-- the first of these routes that serve from a place under a mask, if any do
abbrev pub serving : List Routes → ℕ → ℕ → Option Routes
serving row from mask = find (λ t. serve t from mask) row

-- the first that do of those that are kept from that place
abbrev pub kept : List (Vec Routes) → ℕ → ℕ → Option Routes
kept rows from mask = option_and_then (λ row. serving row.items from mask) (slice_get rows from)

-- whether best paths from a place under a mask are kept
abbrev pub keeps : ForestView → ℕ → ℕ → Bool
keeps f from mask = is_some (kept f.rows from mask)

-- what the first keeps the second keeps too
abbrev pub KeepsStill : ForestView → ForestView → Type 0
KeepsStill before after = (from mask : ℕ) → keeps before from mask ≡ true → keeps after from mask ≡ true
