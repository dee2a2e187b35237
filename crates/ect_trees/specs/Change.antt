-- A graph of which one edge changes, and the trees that were grown in it before.
use Rattle.std.specs.Prelude.{◌≡◌, ℕ, List, Option}
use Rattle.spb_types.specs.Graph.{IsBridge, IsValid, cost_between}
use Rattle.spb_types.specs.declared.address.SystemId.{SystemId}
use Rattle.spb_types.specs.declared.graph.Graph.{Graph}
use Rattle.ect_trees.specs.declared.search.Label.{Label}
use Rattle.ect_trees.specs.declared.search.Search.{Search}
use Rattle.ect_trees.specs.Search.{graph_of, AreBestFrom}
use Rattle.ect_trees.specs.Tree.{Paths, IsGrown}

-- x and y aren't a and b, in either order
abbrev pub IsOther : SystemId → SystemId → SystemId → SystemId → Type 0
IsOther a b x y = (x ≡ a → y ≡ b → ⊥) × (x ≡ b → y ≡ a → ⊥)

-- both graphs have the same bridges, and the same cost between each two that aren't a and b
pub record DiffersAt (a b : SystemId) (g h : Graph) : Type 0 where
  pub bridges : h.bridges ≡ g.bridges
  pub costs : (x y : SystemId) → IsOther a b x y → cost_between h x y ≡ cost_between g x y

-- the tree was grown, from a bridge, in a valid graph that differs from h in the edge between a and b alone
pub record WasGrown (h : Graph) (mask : ℕ) (a b : SystemId) (tree : Paths) : Type 0 where
  pub before : Graph
  pub valid : IsValid before
  pub differs : DiffersAt a b before h
  pub bridge : IsBridge before tree.source
  pub grown : IsGrown before mask tree

-- the same of labels, for a search in the graph as it is now
pub record WereBest (s : Search) (a b : SystemId) (ls : List (Option Label)) : Type 0 where
  pub before : Graph
  pub valid : IsValid before
  pub differs : DiffersAt a b before (graph_of s)
  pub bridge : IsBridge before s.source
  pub best : AreBestFrom before s.mask s.source ls
