-- Trees of best paths that are kept over changes of a graph's edges.
use Rattle.std.specs.Prelude.{◌≡◌, ℕ, ◌+◌, ◌*◌, ◌≤◌, List, [], ◌∷◌, length, map, Bool, false, not, ◌&&◌, Option, Some, None, is_some, All, IfSome, nat_eq}
use Rattle.std.specs.List.{list_any}
use Rattle.spb_types.specs.Address.{same_system}
use Rattle.spb_types.specs.Graph.{systems_of, cost_between, IsEdgeOf, IsValid}
use Rattle.spb_types.specs.declared.address.SystemId.{SystemId}
use Rattle.spb_types.specs.declared.graph.Edge.{Edge}
use Rattle.spb_types.specs.declared.graph.Graph.{Graph}
use Rattle.ect_trees.specs.Tree.{Paths, GivesBest, IsGrown}
use Rattle.ect_trees.specs.Change.{WasGrown}
use Rattle.fork_trees.specs.declared.set.Row.{Row}
use Rattle.fork_trees.specs.Edges.{with_edge, KeepsCost}

-- what a set of trees is to its users: the graph as it is now, the masks, whether a change found no memory, and how
-- many labels changes computed anew
pub record Kept : Type 0 where
  pub graph : Graph
  pub masks : List ℕ
  pub failed : Bool
  pub relabelled : ℕ

-- whether the set has a tree from this source under this mask
abbrev pub has_tree : Kept → SystemId → ℕ → Bool
has_tree s source mask = not s.failed && (list_any (λ m. nat_eq m mask) s.masks
    && list_any (λ b. same_system b.id.system source) s.graph.bridges)

-- what may be answered to the question for a tree: there is one exactly where the set has it, and it gives the best
-- paths of the graph as it is now
pub record Answers (s : Kept) (source : SystemId) (mask : ℕ) (answer : Option Paths) : Type 0 where
  pub some : is_some answer ≡ has_tree s source mask
  pub best : IfSome answer (GivesBest s.graph mask source)

-- ---- changes

-- what a change does: the edge is set between its ends, or the edge there is removed
pub record IsChanged (old : Kept) (e : Edge) (present : Bool) (new : Kept) : Type 0 where
  pub could : old.failed ≡ false
  pub graph_is : new.graph ≡ with_edge old.graph e present
  pub masks_are : new.masks ≡ old.masks
  pub can : new.failed ≡ false

-- the count of labels rises by at most one for each label of each tree, and not where the cost between the ends of the
-- edge stays as it is
pub record IsCounted (old : Kept) (e : Edge) (present : Bool) (new : Kept) : Type 0 where
  pub few : new.relabelled ≤ old.relabelled
      + length old.masks * (length old.graph.bridges * length old.graph.bridges)
  pub none : KeepsCost old.graph e present → new.relabelled ≡ old.relabelled

-- a change that is asked for
pub record Change : Type 0 where
  pub edge : Edge
  pub present : Bool

-- these changes are made one after another, each of an edge between two bridges
abbrev pub HaveChanged : Kept → List Change → Kept → Type 0
HaveChanged old [] new = new ≡ old
HaveChanged old (c ∷ cs) new = IsEdgeOf old.graph c.edge
    × ((mid : Kept) × IsChanged old c.edge c.present mid × HaveChanged mid cs new)

-- the graph once they are made
abbrev pub with_changes : Graph → List Change → Graph
with_changes g [] = g
with_changes g (c ∷ cs) = with_changes (with_edge g c.edge c.present) cs

-- after any changes the set has the same trees, and each gives the best paths of the graph with these changes, which is
-- valid
pub record TreesStand (old : Kept) (cs : List Change) (source : SystemId) (mask : ℕ) (answer : Option Paths)
    : Type 0 where
  pub valid : IsValid (with_changes old.graph cs)
  pub some : is_some answer ≡ has_tree old source mask
  pub best : IfSome answer (GivesBest (with_changes old.graph cs) mask source)

abbrev pub TreesStayBest : Type 0
TreesStayBest = (old new : Kept) (cs : List Change) (source : SystemId) (mask : ℕ) (answer : Option Paths)
    → IsValid old.graph → HaveChanged old cs new → Answers new source mask answer
    → TreesStand old cs source mask answer

-- changes of a set that join two bridges at a cost, which were not joined
pub record Join (old new : Kept) (cs : List Change) : Type 0 where
  pub valid : IsValid old.graph
  pub have : HaveChanged old cs new
  pub x : SystemId
  pub y : SystemId
  pub before : cost_between old.graph x y ≡ None
  pub after : cost_between new.graph x y ≡ Some 5

-- there are such changes
abbrev pub SomeTreesChange : Type 0
SomeTreesChange = (old : Kept) × (new : Kept) × (cs : List Change) × Join old new cs

-- ---- what the set keeps true

-- there is a tree from each bridge of the graph, in order, grown under this mask
pub record AreTrees (g : Graph) (mask : ℕ) (trees : List Paths) : Type 0 where
  pub sources : map (λ t. t.source) trees ≡ systems_of g.bridges
  pub grown : All (IsGrown g mask) trees

-- the same under the mask of each row
abbrev pub AreRows : Graph → List Row → Type 0
AreRows g rows = All (λ r. AreTrees g r.mask r.trees.items) rows

-- the masks of the rows
abbrev pub masks_of : List Row → List ℕ
masks_of rows = map (λ r. r.mask) rows

-- there are rows of trees for these masks
pub record HasRows (g : Graph) (masks : List ℕ) (rows : List Row) : Type 0 where
  pub masks_are : masks_of rows ≡ masks
  pub trees : AreRows g rows

-- the graph is valid, and unless a change failed there are its trees
pub record IsSound (g : Graph) (masks : List ℕ) (rows : List Row) (failed : Bool) : Type 0 where
  pub valid : IsValid g
  pub can : failed ≡ false → HasRows g masks rows

-- the trees were grown, each from a bridge, before the edge changed
pub record WereTrees (h : Graph) (e : Edge) (mask : ℕ) (trees : List Paths) : Type 0 where
  pub sources : map (λ t. t.source) trees ≡ systems_of h.bridges
  pub grown : All (WasGrown h mask e.a e.b) trees

abbrev pub WereRows : Graph → Edge → List Row → Type 0
WereRows h e rows = All (λ r. WereTrees h e r.mask r.trees.items) rows
