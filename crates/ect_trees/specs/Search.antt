-- What the search for the best paths keeps true.
use Rattle.std.specs.Prelude.{◌≡◌, ℕ, ◌-◌, List, [], ◌∷◌, ◌++◌, length, Bool, true, false, Option, Some, None, option_map, slice_set, map, take, ◌⊎◌, ◌≤◌}
use Rattle.std.specs.List.{slice_index_or}
use Rattle.std.specs.Ordering.{is_lt}
use Rattle.std.specs.Cmp.Lexicographic.{slice_cmp}
use Rattle.spb_types.specs.Graph.{IsAmong}
use Rattle.spb_types.specs.declared.address.SystemId.{SystemId}
use Rattle.spb_types.specs.declared.graph.Graph.{Graph}
use Rattle.spb_types.specs.declared.tables.Path.{Path}
use Rattle.ect_trees.specs.declared.key.PathKey.{PathKey}
use Rattle.ect_trees.specs.declared.mesh.Arc.{Arc}
use Rattle.ect_trees.specs.declared.search.Label.{Label}
use Rattle.ect_trees.specs.declared.search.Search.{Search}
use Rattle.ect_trees.specs.declared.waiting.Waiting.{Waiting}
use Rattle.ect_trees.specs.Path.{IsPath, cost_of}
use Rattle.ect_trees.specs.Key.{key_of, id_cmp, masked_id, sorted_ids, IsBelow}
use Rattle.ect_trees.specs.Best.{best_of}
use Rattle.ect_trees.specs.Arcs.{IsBridgeAt, Leads, IsArcAt, rows_of, place_in}
use Rattle.ect_trees.specs.Waits.{waits}
use Rattle.ect_trees.specs.Frontier.{Front, During}

-- the graph that is searched
abbrev pub graph_of : Search → Graph
graph_of s = s.mesh.now.graph

-- the label is a path from a to x with its cost
pub record IsLabelFrom (g : Graph) (a x : SystemId) (l : Label) : Type 0 where
  pub path : IsPath g a x l.bridges.items
  pub cost_is : l.cost ≡ cost_of g l.bridges.items

-- the label at a place
abbrev pub label_at : List (Option Label) → ℕ → Option Label
label_at ls place = slice_index_or ls place None

-- there is a place for each bridge, and each label is a path from a to its bridge with its cost
pub record AreLabelsFrom (g : Graph) (a : SystemId) (ls : List (Option Label)) : Type 0 where
  pub places : length ls ≡ length g.bridges
  pub each : (place : ℕ) (x : SystemId) (l : Label) → IsBridgeAt g place x → label_at ls place ≡ Some l
      → IsLabelFrom g a x l

-- the path of the label at the place of x
abbrev pub way_in : Graph → List (Option Label) → SystemId → Option (List SystemId)
way_in g ls x = option_map (λ l. l.bridges.items) (label_at ls (place_in g.bridges x))

-- the labels are the best paths from a
pub record AreBestFrom (g : Graph) (mask : ℕ) (a : SystemId) (ls : List (Option Label)) : Type 0 where
  pub labels : AreLabelsFrom g a ls
  pub best : (x : SystemId) → way_in g ls x ≡ best_of g mask a x

-- the same of a search
abbrev pub IsLabel : Search → SystemId → Label → Type 0
IsLabel s x l = IsLabelFrom (graph_of s) s.source x l

abbrev pub AreLabels : Search → List (Option Label) → Type 0
AreLabels s ls = AreLabelsFrom (graph_of s) s.source ls

abbrev pub way_of : Search → List (Option Label) → SystemId → Option (List SystemId)
way_of s ls x = way_in (graph_of s) ls x

abbrev pub AreBest : Search → List (Option Label) → Type 0
AreBest s ls = AreBestFrom (graph_of s) s.mask s.source ls

-- the entry of a label in the frontier
abbrev pub entry_of : Label → ℕ → Waiting
entry_of l place = record { cost = l.cost; hops = length l.bridges.items - 1; place = place }

-- a label waits at this place
abbrev pub WaitsAt : List Waiting → ℕ → Type 0
WaitsAt front place = (e : Waiting) × (waits front e ≡ true) × (e.place ≡ place)

-- what waits is the label at its place
abbrev pub AreEntries : List (Option Label) → List Waiting → Type 0
AreEntries ls front = (e : Waiting) → waits front e ≡ true
    → (l : Label) × (label_at ls e.place ≡ Some l) × (e ≡ entry_of l e.place)

-- labels, and those of them that wait
pub record IsState (s : Search) (ls : List (Option Label)) (front : List Waiting) : Type 0 where
  pub labels : AreLabels s ls
  pub entries : AreEntries ls front

-- the arc leads along an edge from the end of the label
abbrev pub Extends : Search → Arc → Label → Type 0
Extends s arc l = (x : SystemId) × (y : SystemId) × Leads (graph_of s) arc x y × IsLabel s x l

-- the path of one bridge
pub record IsFirst (x : SystemId) (l : Label) : Type 0 where
  pub one : l.bridges.items ≡ x ∷ []
  pub cost_is : l.cost ≡ 0

-- the path with y, at this cost
pub record IsExtended (l : Label) (y : SystemId) (cost : ℕ) (new : Label) : Type 0 where
  pub longer : new.bridges.items ≡ l.bridges.items ++ y ∷ []
  pub cost_is : new.cost ≡ cost

-- the key of the label's path with y, and the cost of that path
abbrev pub longer_key : Search → Label → SystemId → PathKey
longer_key s l y = key_of (graph_of s) s.mask (l.bridges.items ++ y ∷ [])

abbrev pub longer_cost : Search → Label → SystemId → ℕ
longer_cost s l y = cost_of (graph_of s) (l.bridges.items ++ y ∷ [])

-- the masked ids of bridges in ascending order
abbrev pub ids_of : Search → List SystemId → List (List ℕ)
ids_of s bridges = sorted_ids (map (masked_id (graph_of s) s.mask) bridges)

-- whether the label's ids are below those of the old one's bridges but the last
abbrev pub HasLowerIds : Search → Label → Label → Bool → Type 0
HasLowerIds s l old lower = lower
    ≡ is_lt (slice_cmp id_cmp (ids_of s l.bridges.items) (ids_of s (take (length l.bridges.items) old.bridges.items)))

-- the key of the label's path with y is not below that of the label o
abbrev pub IsLow : Search → Label → SystemId → Option Label → Type 0
IsLow s l y old = (o : Label) × (old ≡ Some o)
    × (IsBelow (longer_key s l y) (key_of (graph_of s) s.mask o.bridges.items) → ⊥)

-- it is below that of the label o
abbrev pub IsUnder : Search → Label → SystemId → Option Label → Type 0
IsUnder s l y old = (o : Label) → old ≡ Some o
    → IsBelow (longer_key s l y) (key_of (graph_of s) s.mask o.bridges.items)

-- whether the label's path with y is a path and better than the old one
abbrev pub Tells : Search → Label → SystemId → Option Label → Bool → Type 0
Tells s l y old true = (IsAmong y l.bridges.items → ⊥) × IsUnder s l y old
Tells s l y old false = (IsAmong y l.bridges.items → ⊥) → IsLow s l y old

-- x waits: its label does
abbrev pub waits_of : Search → List Waiting → SystemId → Type 0
waits_of s front x = WaitsAt front (place_in (graph_of s).bridges x)

-- the labels and those that wait are a frontier, with these bridges done
abbrev pub IsFront : Search → List (Option Label) → List Waiting → List SystemId → Type 0
IsFront s ls front done = Front (graph_of s) s.mask s.source done (waits_of s front) (way_of s ls)

-- an arc from this place to v, of this number or a later one, is still to be looked at
abbrev pub IsLeft : Search → ℕ → ℕ → SystemId → Type 0
IsLeft s place k v = (number : ℕ) × (arc : Arc) × (k ≤ number)
    × IsArcAt (rows_of s.mesh.now) place number arc × IsBridgeAt (graph_of s) arc.to v

-- a bridge whose arcs were to be looked at is done once they are relaxed
abbrev pub RelaxesAll : Search → ℕ → List (Option Label) → List (Option Label) → List Waiting → List Waiting
    → Type 0
RelaxesAll s place ls ls' front front' = (done : List SystemId) (x : SystemId) (p : List SystemId)
    → IsBridgeAt (graph_of s) place x
    → During (graph_of s) s.mask s.source done x p (waits_of s front) (IsLeft s place 0) (way_of s ls)
    → IsFront s ls' front' done

-- the label's path with y is the new one, and below the old one, if there is one
pub record IsLower (s : Search) (l : Label) (y : SystemId) (old : Option Label) (new : Label) : Type 0 where
  pub label : IsLabel s y new
  pub longer : new.bridges.items ≡ l.bridges.items ++ y ∷ []
  pub free : IsAmong y l.bridges.items → ⊥
  pub below : IsUnder s l y old

-- what comes of the arc at its end: a lower label, or none, where its path is low or passes the end
abbrev pub Improves : Search → Arc → Label → Option Label → Option Label → Type 0
Improves s arc l old None = (y : SystemId) → IsBridgeAt (graph_of s) arc.to y
    → (IsAmong y l.bridges.items → ⊥) → IsLow s l y old
Improves s arc l old (Some new) = (y : SystemId) → IsBridgeAt (graph_of s) arc.to y → IsLower s l y old new

-- the new label stands at the place, and waits in place of the old one
pub record IsSet (place : ℕ) (new : Label) (ls ls' : List (Option Label)) (front front' : List Waiting)
    : Type 0 where
  pub labels : ls' ≡ slice_set ls place (Some new)
  pub those : (e : Waiting) → waits front' e ≡ true
      → (e ≡ entry_of new place) ⊎ ((e.place ≡ place → ⊥) × (waits front e ≡ true))
  pub kept : (e : Waiting) → (e.place ≡ place → ⊥) → waits front e ≡ true → waits front' e ≡ true
  pub here : waits front' (entry_of new place) ≡ true

-- what relaxing an arc does: nothing where no label is at its start, or where its path is low or passes the end;
-- otherwise the end gets that path
pub data IsRelaxed (s : Search) (arc : Arc) (ls ls' : List (Option Label)) (front front' : List Waiting)
    : Type 0 where
  none : ls' ≡ ls → front' ≡ front → label_at ls arc.from ≡ None → IsRelaxed s arc ls ls' front front'
  same : ls' ≡ ls → front' ≡ front → (l : Label) → label_at ls arc.from ≡ Some l
      → Improves s arc l (label_at ls arc.to) None → IsRelaxed s arc ls ls' front front'
  lower : (l : Label) → label_at ls arc.from ≡ Some l → (new : Label)
      → Improves s arc l (label_at ls arc.to) (Some new) → IsSet arc.to new ls ls' front front'
      → IsRelaxed s arc ls ls' front front'

-- the path of a label with its cost
abbrev pub path_of : Label → Path
path_of l = record { cost = l.cost; bridges = l.bridges.items }

-- the paths of the labels
abbrev pub paths_in : List (Option Label) → List Path
paths_in [] = []
paths_in (None ∷ ls) = paths_in ls
paths_in (Some l ∷ ls) = path_of l ∷ paths_in ls
