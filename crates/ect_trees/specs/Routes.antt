-- The best paths from a bridge, as they are kept.
use Rattle.std.specs.Prelude.{◌≡◌, ℕ, Bool, true, false, List, Option, option_map, ◌==◌, ◌&&◌, ◌||◌}
use Rattle.spb_types.specs.declared.address.SystemId.{SystemId}
use Rattle.spb_types.specs.declared.graph.Graph.{Graph}
use Rattle.spb_types.specs.declared.tables.Path.{Path}
use Rattle.ect_trees.specs.declared.mesh.Mesh.{Mesh}
use Rattle.ect_trees.specs.declared.routes.Form.{Form}
use Rattle.ect_trees.specs.declared.routes.Routes.{Routes}
use Rattle.ect_trees.specs.declared.trial.Verdict.{Verdict}
use Rattle.ect_trees.specs.declared.ways.Step.{Step}
use Rattle.ect_trees.specs.Arcs.{IsBridgeAt}
use Rattle.ect_trees.specs.Best.{best_of}
use Rattle.ect_trees.specs.Followers.{IsFollowerAt, NoneFollows}
use Rattle.ect_trees.specs.Path.{cost_of}
use Rattle.ect_trees.specs.Tree.{GivesBest, best_path}
use Rattle.ect_trees.specs.Trial.{Covers}
use Rattle.ect_trees.specs.Ways.{way_to, AreWays}

-- the steps make the best ways from the bridge at a place under the mask m
pub record AreBestSteps (g : Graph) (from m : ℕ) (steps : List (Option Step)) : Type 0 where
  pub mesh : Mesh
  pub graph_is : mesh.graph ≡ g
  pub best : (a : SystemId) → IsBridgeAt mesh.graph from a → AreWays mesh from a steps
      × ((x : SystemId) → way_to mesh.graph a steps x ≡ best_of mesh.graph m a x)

-- the paths are the best ones from the bridge at a place: those that are told by steps under each mask of which the
-- verdict says it, which it does of this mask; and those that are whole under this mask
abbrev pub AreBestAt : Graph → ℕ → ℕ → Form → Type 0
AreBestAt g from mask (Form.Steps steps v) = Covers mask v mask
    × ((m : ℕ) → Covers mask v m → AreBestSteps g from m steps.items)
AreBestAt g from mask (Form.Whole tree) = (a : SystemId) → IsBridgeAt g from a → GivesBest g mask a tree

-- these are routes in the graph
abbrev pub AreRoutes : Graph → Routes → Type 0
AreRoutes g t = AreBestAt g t.from t.mask t.form

-- whether no two paths tie
abbrev pub is_untied : Verdict → Bool
is_untied Verdict.Untied = true
is_untied Verdict.Tied = false
is_untied Verdict.Wrong = false

-- whether they are so under every mask
abbrev pub is_for_all_masks : Form → Bool
is_for_all_masks (Form.Steps steps v) = is_untied v
is_for_all_masks (Form.Whole tree) = false

-- whether the routes are those from this place, under this mask too
abbrev pub serve : Routes → ℕ → ℕ → Bool
serve t from mask = (t.from == from) && ((t.mask == mask) || is_for_all_masks t.form)

-- on routes of the graph, this is the place of the bridge that follows the one at a place on the path to another, under
-- each mask under which they serve
abbrev pub LeadBy : Graph → Routes → ℕ → ℕ → ℕ → Type 0
LeadBy g t me to place = (from mask : ℕ)
    → AreRoutes g t → serve t from mask ≡ true → IsFollowerAt g mask from me to place

-- on routes of the graph, no bridge follows the one at this place on a path, under each mask under which they serve
abbrev pub NoneLed : Graph → Routes → ℕ → Type 0
NoneLed g t me = (from mask : ℕ) → AreRoutes g t → serve t from mask ≡ true → NoneFollows g mask from me

-- this is the path from a to x, with its cost, on the way there, if there is one
abbrev pub IsPathOnWay : Graph → SystemId → List (Option Step) → SystemId → Option Path → Type 0
IsPathOnWay g a steps x path = (r : Mesh) (from : ℕ) → r.graph ≡ g → AreWays r from a steps
    → path ≡ option_map (λ p. record { cost = cost_of g p; bridges = p }) (way_to g a steps x)

-- on routes of the graph, this is the best path from a to x, under each mask under which they serve
abbrev pub PathBy : Graph → Routes → SystemId → SystemId → Option Path → Type 0
PathBy g t a x path = (from mask : ℕ)
    → AreRoutes g t → serve t from mask ≡ true → IsBridgeAt g from a → path ≡ best_path g mask a x
