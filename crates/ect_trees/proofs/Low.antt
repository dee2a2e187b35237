-- Ways that are low at every edge are the best paths, and the best paths are such ways.
use Rattle.std.proofs.Common.{◌≡◌, ℕ, zero, suc, ◌≤◌, ◌⊎◌, inl, inr, List, [], ◌∷◌, ◌++◌, length, Option, Some, None, IsSome, refl, sym, ap, ◌∙◌, subst, arith, length-append}
use Rattle.spb_types.specs.Graph.{IsAmong, IsBridge, IsValid, cost_between}
use Rattle.spb_types.specs.declared.address.SystemId.{SystemId}
use Rattle.spb_types.specs.declared.graph.Graph.{Graph}
use Rattle.ect_trees.specs.Path.{IsPath}
use Rattle.ect_trees.specs.Key.{key_of, IsBelow}
use Rattle.ect_trees.specs.Best.{IsBest, best_of}
use Rattle.ect_trees.specs.Low.{LowAt, AreLow}
use Rattle.ect_trees.proofs.Walks.{path_snoc, path_distinct}
use Rattle.ect_trees.proofs.Least.{best_is_least}
use Rattle.ect_trees.proofs.Exists.{best_of_cases, best_of_some, best_exists}
use Rattle.ect_trees.proofs.Steps.{IsStep, best_step, joined_bridges, best_to_itself, distinct_end, same_as_best}

-- a best path is the way, if the path that it has without its last bridge is
way_of_step : (g : Graph) (mask : ℕ) (a y x : SystemId) (p q : List SystemId) (way : SystemId → Option (List SystemId)) → AreLow g mask a way → IsBest g mask a y p → IsStep g mask a y p x q → way x ≡ Some q → way y ≡ Some p
way_of_step g mask a y x p q way low best s at =
    let path : IsPath g a y (q ++ y ∷ []) = subst (λ t. IsPath g a y t) s.whole best.path in
    let off : IsAmong y q → ⊥ = distinct_end q y (path_distinct g a y (q ++ y ∷ []) path) in
    let found : LowAt g mask way y (q ++ y ∷ []) = low.low x y q at s.joined off in
    let above : IsBelow (key_of g mask p) (key_of g mask found.0) → ⊥ = subst (λ t. IsBelow (key_of g mask t) (key_of g mask found.0) → ⊥) (sym s.whole) found.2 in
    found.1 ∙ ap Some (same_as_best g mask a y p found.0 best (low.paths y found.0 found.1) above)

-- a best path of at most n bridges is the way
best_is_way : (g : Graph) (mask : ℕ) (a : SystemId) (way : SystemId → Option (List SystemId)) (n : ℕ) (y : SystemId) (p : List SystemId) → IsValid g → AreLow g mask a way → length p ≤ n → IsBest g mask a y p → way y ≡ Some p
best_is_way g mask a way zero y [] valid low short best = absurd best.path
best_is_way g mask a way zero y (x ∷ xs) valid low short best = absurd (omega (arith, short))
best_is_way g mask a way (suc n) y p valid low short best = by_step (λ x q h b. best_is_way g mask a way n x q valid low h b) (best_step g mask a y p valid best)
  where
    by_step : ((x : SystemId) (q : List SystemId) → length q ≤ n → IsBest g mask a x q → way x ≡ Some q) → ((p ≡ a ∷ []) × (y ≡ a)) ⊎ ((x : SystemId) × (q : List SystemId) × IsStep g mask a y p x q) → way y ≡ Some p
    by_step shorter (inl e) = subst (λ t. way t ≡ Some p) (sym e.1) (low.start ∙ ap Some (sym e.0))
    by_step shorter (inr s) =
        let whole : length p ≡ length (s.1 ++ y ∷ []) = ap length s.2.whole in
        let fewer : length s.1 ≤ n = omega (arith, short, whole, length-append s.1 (y ∷ [])) in
        way_of_step g mask a y s.0 p s.1 way low best s.2 (shorter s.0 s.1 fewer s.2.best)

pub low_is_best : (g : Graph) (mask : ℕ) (a : SystemId) (way : SystemId → Option (List SystemId)) → IsValid g → AreLow g mask a way → (x : SystemId) → way x ≡ best_of g mask a x
low_is_best g mask a way valid low x =
    elim (best_of_cases g mask a x valid) [
      | inl h ↦ no_way h.0 (way x) refl ∙ sym h.1
      | inr h ↦ best_is_way g mask a way (length h.0) x h.0 valid low (omega arith) h.2 ∙ sym h.1
    ]
  where
    no_way : ((p : List SystemId) → IsPath g a x p → ⊥) → (o : Option (List SystemId)) → way x ≡ o → way x ≡ None
    no_way n None e = e
    no_way n (Some p) e = absurd (n p (low.paths x p e))

pub best_is_low : (g : Graph) (mask : ℕ) (a : SystemId) → IsValid g → IsBridge g a → AreLow g mask a (λ x. best_of g mask a x)
best_is_low g mask a valid h = record {
  start = (best_of_some g mask a a (a ∷ []) valid).1 ((best_to_itself g mask a (a ∷ []) h).1 refl);
  paths = λ x p e. ((best_of_some g mask a x p valid).0 e).path;
  low = low_at;
}
  where
    low_at : (x y : SystemId) (p : List SystemId) → best_of g mask a x ≡ Some p → IsSome (cost_between g x y) → (IsAmong y p → ⊥) → LowAt g mask (λ z. best_of g mask a z) y (p ++ y ∷ [])
    low_at x y p e joined off =
        let best : IsBest g mask a x p = (best_of_some g mask a x p valid).0 e in
        let path : IsPath g a y (p ++ y ∷ []) = path_snoc g a x y p best.path joined (joined_bridges g x y valid joined).1 off in
        let other = best_exists g mask a y (p ++ y ∷ []) valid path in
        (other.0, (best_of_some g mask a y other.0 valid).1 other.1, (best_is_least g mask a y other.0 other.1).least (p ++ y ∷ []) path)
