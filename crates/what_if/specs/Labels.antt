-- The ways that following entries gives, as labels at the places of bridges.
use Rattle.std.specs.Prelude.{◌≡◌, ℕ, ◌<◌, List, length, Option, Some, None, option_map}
use Rattle.spb_types.specs.Graph.{IsBridge, cost_between}
use Rattle.spb_types.specs.declared.address.SystemId.{SystemId}
use Rattle.spb_types.specs.declared.graph.Graph.{Graph}
use Rattle.spb_types.specs.declared.tables.Path.{Path}
use Rattle.ect_trees.specs.declared.mesh.Arc.{Arc}
use Rattle.ect_trees.specs.declared.search.Label.{Label}
use Rattle.ect_trees.specs.Arcs.{IsBridgeAt, Leads}
use Rattle.ect_trees.specs.Path.{cost_of}
use Rattle.ect_trees.specs.Search.{label_at}
use Rattle.ect_trees.specs.Tree.{best_path}
use Rattle.what_if.specs.declared.entry.Entry.{Entry}
use Rattle.what_if.specs.Following.{entry_for, way_of}
use Rattle.what_if.specs.Failing.{NobodyFails}

-- the arc leads from y to the bridge at a place; there is none exactly where no edge joins them
abbrev pub IsArcFrom : Graph → ℕ → SystemId → Option Arc → Type 0
IsArcFrom g place y None = (x : SystemId) → IsBridgeAt g place x → cost_between g x y ≡ None
IsArcFrom g place y (Some arc) = (x : SystemId) → IsBridgeAt g place x → Leads g arc y x

-- the arc leads to the bridge at a place from the neighbour that its entry names; there is none exactly where the entry
-- names no neighbour
abbrev pub IsStepBy : Graph → ℕ → Entry → Option Arc → Type 0
IsStepBy g place Entry.Start arc = arc ≡ None
IsStepBy g place (Entry.Before y) arc = IsArcFrom g place y arc
IsStepBy g place Entry.Unreached arc = arc ≡ None

abbrev pub IsStepTo : Graph → List Entry → ℕ → Option Arc → Type 0
IsStepTo g es place arc = (x : SystemId) → IsBridgeAt g place x → IsStepBy g place (entry_for g es x) arc

-- the label is this way, with its cost
pub record IsWay (g : Graph) (way : Option (List SystemId)) (o : Option Label) : Type 0 where
  pub way_is : option_map (λ l. l.bridges.items) o ≡ way
  pub cost_is : (l : Label) → o ≡ Some l → l.cost ≡ cost_of g l.bridges.items

-- it is the way of the bridge at a place
abbrev pub IsWayTo : Graph → List Entry → SystemId → ℕ → Option Label → Type 0
IsWayTo g es a place o = (x : SystemId) → IsBridgeAt g place x → IsWay g (way_of g es a x) o

-- the first n of the labels are the ways of the bridges at their places
pub record AreFirstWays (g : Graph) (es : List Entry) (a : SystemId) (n : ℕ) (ls : List (Option Label)) : Type 0 where
  pub places : length ls ≡ n
  pub each : (place : ℕ) → place < n → IsWayTo g es a place (label_at ls place)

-- there is a label for each way, at the place of its bridge
abbrev pub AreWays : Graph → List Entry → SystemId → List (Option Label) → Type 0
AreWays g es a ls = AreFirstWays g es a (length g.bridges) ls

-- this is the best path to x, with its cost, from whichever bridge and under whichever mask no bridge fails
abbrev pub IsPathBy : Graph → List Entry → SystemId → Option Path → Type 0
IsPathBy g es x path = (mask : ℕ) (a : SystemId) → IsBridge g a → NobodyFails g mask es a → path ≡ best_path g mask a x
