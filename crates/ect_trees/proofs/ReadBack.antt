-- Whole paths that are read back from the last steps of ways.
use Rattle.std.proofs.Common.{◌≡◌, ℕ, suc, ◌+◌, List, [], ◌∷◌, reverse, Option, Some, option_map, refl, sym, ap, ◌∙◌, subst, arith}
use Rattle.std.specs.Prelude.{position}
use Rattle.std.proofs.lemmas.List.{reverse-append}
use Rattle.spb_types.specs.Address.{same_system}
use Rattle.spb_types.specs.declared.address.SystemId.{SystemId}
use Rattle.spb_types.specs.declared.graph.Graph.{Graph}
use Rattle.spb_types.specs.declared.tables.Path.{Path}
use Rattle.ect_trees.specs.declared.ways.Step.{Step}
use Rattle.ect_trees.specs.Arcs.{IsBridgeAt}
use Rattle.ect_trees.specs.Path.{cost_of}
use Rattle.ect_trees.specs.Routes.{IsPathOnWay}
use Rattle.ect_trees.specs.Ways.{step_at, place_before, bridge_at, way_back, way_to}
use Rattle.ect_trees.proofs.Places.{found_place}
use Rattle.ect_trees.proofs.Chained.{is_way, way_is}

-- a way of one hop more, from its end back
pub back_more : (g : Graph) (a : SystemId) (steps : List (Option Step)) (n left place : ℕ) → left ≡ n + 1 → reverse (way_back g a steps left place) ≡ bridge_at g a place ∷ reverse (way_back g a steps n (place_before steps place))
back_more g a steps n left place e =
    let up : left ≡ suc n = omega (arith, e) in
    ap (λ t. reverse (way_back g a steps t place)) up ∙ reverse-append (way_back g a steps n (place_before steps place)) (bridge_at g a place ∷ [])

-- a path with a cost
abbrev path_at : ℕ → List SystemId → Path
path_at n p = record { cost = n; bridges = p }

-- the path that is read back from the step at the place of x
pub read_back : (g : Graph) (a : SystemId) (steps : List (Option Step)) (x : SystemId) (place : ℕ) (s : Step) (bridges : List SystemId) → position (λ b. same_system b.id.system x) g.bridges ≡ Some place → step_at steps place ≡ Some s → bridges ≡ way_back g a steps s.hops place → IsPathOnWay g a steps x (Some (record { cost = s.cost; bridges = bridges }))
read_back g a steps x place s bridges found there read = λ r from same w.
    let here : IsBridgeAt r.graph place x = subst (λ h. IsBridgeAt h place x) (sym same) (found_place g x place found) in
    let way = is_way r from a steps w s.hops place s x there refl here in
    let told : way_to r.graph a steps x ≡ Some (way_back r.graph a steps s.hops place) = way_is r from a steps w place s x there here in
    let own : Some (path_at s.cost (way_back r.graph a steps s.hops place)) ≡ option_map (λ p. path_at (cost_of r.graph p) p) (way_to r.graph a steps x) =
    ap (λ n. Some (path_at n (way_back r.graph a steps s.hops place))) way.cost_is ∙ ap (option_map (λ p. path_at (cost_of r.graph p) p)) (sym told) in
    ap (λ p. Some (path_at s.cost p)) read
    ∙ subst (λ h. Some (path_at s.cost (way_back h a steps s.hops place)) ≡ option_map (λ p. path_at (cost_of h p) p) (way_to h a steps x)) same own
