use Rattle.std.specs.Prelude.{◌≡◌, ℕ, List, [], ◌∷◌, Bool, false, Option, Some, true, option_map, option_and_then, find, slice_get}
use Rattle.spb_types.specs.Address.{same_system}
use Rattle.spb_types.specs.declared.address.SystemId.{SystemId}
use Rattle.spb_types.specs.declared.graph.Graph.{Graph}
use Rattle.spb_types.specs.declared.tables.Path.{Path}
use Rattle.ect_trees.specs.Path.{cost_of}
use Rattle.ect_trees.specs.Best.{best_of}
use Rattle.ect_trees.specs.declared.search.Label.{Label}
use Rattle.ect_trees.specs.Search.{label_at, path_of, paths_in, AreBestFrom}

-- a tree: its source, paths, which path_in reads as a map from the bridges where they end, and the labels by place
-- whose paths these are
pub record Paths : Type 0 where
  pub source : SystemId
  pub paths : List Path
  pub labels : List (Option Label)

-- whether the last bridge of the list is x
abbrev pub ends_at : List SystemId → SystemId → Bool
ends_at [] x = false
ends_at (y ∷ []) x = same_system y x
ends_at (y ∷ z ∷ zs) x = ends_at (z ∷ zs) x

-- the first of the paths that ends at x
abbrev pub path_in : List Path → SystemId → Option Path
path_in ps x = find (λ p. ends_at p.bridges x) ps

-- the path of each label is the one that is found at its end
abbrev pub EndOnce : List (Option Label) → Type 0
EndOnce ls = (place : ℕ) (l : Label) (x : SystemId) → label_at ls place ≡ Some l
    → ends_at l.bridges.items x ≡ true → path_in (paths_in ls) x ≡ Some (path_of l)

-- the second bridge of the first of the paths that ends at x
abbrev pub second_in : List Path → SystemId → Option SystemId
second_in ps x = option_and_then (λ p. slice_get p.bridges 1) (path_in ps x)

-- the best path from a to b with its cost, if there is a path
abbrev pub best_path : Graph → ℕ → SystemId → SystemId → Option Path
best_path g mask a b = option_map (λ p. record { cost = cost_of g p; bridges = p }) (best_of g mask a b)

-- the tree has the best path from its source to each system id that has a path, with its cost, and no other
pub record GivesBest (g : Graph) (mask : ℕ) (source : SystemId) (tree : Paths) : Type 0 where
  pub from : tree.source ≡ source
  pub best : (to : SystemId) → path_in tree.paths to ≡ best_path g mask source to

-- the labels of the tree are the best paths from its source, each at the place of its bridge in the graph
pub record IsGrown (g : Graph) (mask : ℕ) (tree : Paths) : Type 0 where
  pub paths_are : tree.paths ≡ paths_in tree.labels
  pub best : AreBestFrom g mask tree.source tree.labels
