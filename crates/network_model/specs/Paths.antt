-- The question of the path between two bridges: what the first answers by the LSPs that it holds.
use Rattle.std.specs.Prelude.{ℕ, List, [], Option, Some, None, slice_get}
use Rattle.std.specs.Option.{option_and_then}
use Rattle.spb_types.specs.declared.service.Vid.{Vid}
use Rattle.spb_types.specs.declared.tables.Path.{Path}
use Rattle.bridge_api.specs.Graph.{own_path}
use Rattle.network_model.specs.declared.answer.Answer.{Answer}
use Rattle.network_model.specs.declared.answer.Answer.TheVariants as answers
use Rattle.spb_world.specs.World.{Bridges, place_of, system_at, declared_vid}
use Rattle.network_model.specs.State.{State}
use Rattle.spb_world.specs.Systems.{names_on}

-- the best path from the bridge at place i to that at place j in a base VID, by the LSPs that the first holds
abbrev pub path_at : State → ℕ → ℕ → Vid → Option Path
path_at s i j vid = option_and_then (λ v. own_path v (system_at s.world.bridges j) vid) (slice_get s.views i)

-- what is answered of a path: its cost and the names on it, or no names where there is none
abbrev pub path_answer : Bridges → List ℕ → List ℕ → Vid → Option Path → Answer
path_answer bridges from to vid None = answers.Path from to vid 0 []
path_answer bridges from to vid (Some path) = answers.Path from to vid path.cost (names_on bridges path.bridges)

-- the answer of the bridge at place i, by the other bridge's place and the base VID, where they were found
abbrev pub path_found : State → ℕ → List ℕ → List ℕ → Option ℕ → Option Vid → Answer
path_found s i from to None vid = answers.Silent
path_found s i from to (Some j) None = answers.Silent
path_found s i from to (Some j) (Some vid) = path_answer s.world.bridges from to vid (path_at s i j vid)

abbrev pub path_from : State → ℕ → List ℕ → List ℕ → ℕ → Answer
path_from s i from to vid = path_found s i from to (place_of to s.world.bridges) (declared_vid s.world.vids vid)
