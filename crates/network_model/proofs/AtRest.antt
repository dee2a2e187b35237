-- A sound network whose sequence numbers are counted is at rest where it is quiet.
use Rattle.std.proofs.Common.{◌≡◌, ◌≤◌, ℕ, suc, List, [], ◌∷◌, length, Option, Some, None, slice_get, refl, arith}
use Rattle.std.specs.List.{AllByRecursion, filter_map, cons_option}
use Rattle.std.specs.FinMap.{entries}
use Rattle.spb_types.specs.declared.limits.TheConstants.{MOST_GRAPH_BRIDGES}
use Rattle.flooding.proofs.OwnNumbers.{few_numbers}
use Rattle.bridge_api.specs.View.{BridgeView}
use Rattle.bridge_api.specs.Tables.{live_lsp, live_lsps, read_at}
use Rattle.bridge_api.specs.Graph.{contents_of}
use Rattle.network_model.specs.State.{State}
use Rattle.network_model.specs.Sound.{IsSoundState}
use Rattle.network_model.specs.Counted.{IsCounted}
use Rattle.network_model.specs.Quiet.{IsQuiet}
use Rattle.network_model.specs.Truth.{IsAtRest}
use Rattle.network_model.proofs.QuietLaws.{quiet_says}
use Rattle.network_model.proofs.CountedEnds.{few_held, origins_give_one_body}

-- no more is read than is held
read_few : {X Y : Type 0} (f : X → Option Y) (xs : List X) → length (filter_map f xs) ≤ length xs
read_few f [] = omega arith
read_few f (x ∷ xs) = at (f x) (read_few f xs)
  where
    at : (o : Option _) → length (filter_map f xs) ≤ length xs → length (cons_option o (filter_map f xs)) ≤ length (x ∷ xs)
    at None few = omega (arith, few)
    at (Some y) few = omega (arith, few)

contents_few : (s : State) (i : ℕ) (v : BridgeView) → IsSoundState s → IsCounted s → slice_get s.views i ≡ Some v → length (contents_of v) ≤ MOST_GRAPH_BRIDGES
contents_few s i v sound counted at =
    let lsps = live_lsps v.database in
    let read = read_few (read_at lsps) lsps in
    let live = read_few live_lsp (entries v.database) in
    let held = few_held s i v sound counted at in
    omega (arith, read, live, held, few_numbers)

all_views : (P : BridgeView → Type 0) (views : List BridgeView) → ((i : ℕ) (v : BridgeView) → slice_get views i ≡ Some v → P v) → AllByRecursion P views
all_views P [] each = tt
all_views P (v ∷ views) each = (each 0 v refl, all_views P views (λ i w at. each (suc i) w at))

-- it is at rest
pub at_rest : (s : State) → IsSoundState s → IsCounted s → IsQuiet s → IsAtRest s
at_rest s sound counted quiet =
    record {
      sound = sound;
      calm = (quiet_says s).quiet.0 quiet;
      bodies = origins_give_one_body s sound counted;
      fresh = counted.by.fresh;
      few = all_views (λ v. length (contents_of v) ≤ MOST_GRAPH_BRIDGES) s.views (λ i v at. contents_few s i v sound counted at);
    }
