use Rattle.std.specs.Prelude.{◌≢◌, ℕ, zero, suc, List, [], ◌∷◌, length, map, Bool, true, false, not, ◌&&◌, ◌||◌, Option, Some, None, is_some, if◌then◌else◌, filter, flat_map}
use Rattle.std.specs.Ordering.{is_gt}
use Rattle.spb_types.specs.Address.{same_system}
use Rattle.spb_types.specs.Graph.{systems_of, cost_between}
use Rattle.spb_types.specs.declared.address.SystemId.{SystemId}
use Rattle.spb_types.specs.declared.graph.Graph.{Graph}
use Rattle.ect_trees.specs.Path.{IsPath}
use Rattle.ect_trees.specs.Key.{key_of, key_cmp, IsBelow}

-- the best path from a to b under a mask: its key is below that of every other path from a to b
-- (IEEE 802.1aq, 28.5 to 28.8)
pub record IsBest (g : Graph) (mask : ℕ) (a b : SystemId) (p : List SystemId) : Type 0 where
  pub path : IsPath g a b p
  pub below : (q : List SystemId) → IsPath g a b q → q ≢ p → IsBelow (key_of g mask p) (key_of g mask q)

-- whether x is one of these system ids
abbrev pub is_among : SystemId → List SystemId → Bool
is_among x [] = false
is_among x (y ∷ ys) = same_system x y || is_among x ys

-- whether no system id stands twice in the list
abbrev pub is_distinct : List SystemId → Bool
is_distinct [] = true
is_distinct (x ∷ xs) = not (is_among x xs) && is_distinct xs

-- whether a ∷ xs is a walk of the graph that ends at b
abbrev pub leads : Graph → SystemId → List SystemId → SystemId → Bool
leads g a [] b = is_among a (systems_of g.bridges) && same_system a b
leads g a (x ∷ xs) b = is_among a (systems_of g.bridges) && (is_some (cost_between g a x) && leads g x xs b)

-- whether the list is a path from a to b
abbrev pub is_path : Graph → SystemId → SystemId → List SystemId → Bool
is_path g a b [] = false
is_path g a b (x ∷ xs) = same_system x a && (leads g x xs b && is_distinct (x ∷ xs))

-- every list of at most n of these system ids
abbrev pub lists_within : ℕ → List SystemId → List (List SystemId)
lists_within zero xs = [] ∷ []
lists_within (suc n) xs = [] ∷ flat_map (λ x. map (λ p. x ∷ p) (lists_within n xs)) xs

-- every path from a to b: those among all lists of the graph's bridges, of at most as many as it has
abbrev pub paths_of : Graph → SystemId → SystemId → List (List SystemId)
paths_of g a b = filter (is_path g a b) (lists_within (length g.bridges) (systems_of g.bridges))

-- the one of two paths that has the lower key
abbrev pub lower_of : Graph → ℕ → List SystemId → Option (List SystemId) → List SystemId
lower_of g mask p None = p
lower_of g mask p (Some q) = if is_gt (key_cmp (key_of g mask p) (key_of g mask q)) then q else p

-- the path of least key among these
abbrev pub least_of : Graph → ℕ → List (List SystemId) → Option (List SystemId)
least_of g mask [] = None
least_of g mask (p ∷ ps) = Some (lower_of g mask p (least_of g mask ps))

-- the best path from a to b, if there is a path: the one of least key among all of them
unfoldable pub best_of : Graph → ℕ → SystemId → SystemId → Option (List SystemId)
best_of g mask a b = least_of g mask (paths_of g a b)
