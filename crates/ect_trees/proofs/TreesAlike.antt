-- The trees of graphs that are alike, and what a tree has whose labels are best.
use Rattle.std.proofs.Common.{◌≡◌, ℕ, ◌⊎◌, inl, inr, List, Some, None, option_map, refl, sym, ap, ◌∙◌}
use Rattle.spb_types.specs.Graph.{IsValid}
use Rattle.spb_types.specs.declared.address.SystemId.{SystemId}
use Rattle.spb_types.specs.declared.graph.Graph.{Graph}
use Rattle.spb_types.specs.declared.tables.Path.{Path}
use Rattle.ect_trees.specs.Path.{IsPath, cost_of}
use Rattle.ect_trees.specs.Best.{IsBest, best_of}
use Rattle.ect_trees.specs.Tree.{Paths, GivesBest, path_in, best_path}
use Rattle.ect_trees.specs.Laws.{AreAlike, TreesAlike, GrownIsBest}
use Rattle.ect_trees.specs.Followers.{IsFollower, FollowsInTree}
use Rattle.ect_trees.proofs.Exists.{best_of_cases}
use Rattle.ect_trees.proofs.Alike.{cost_alike, paths_of_alike, order_says_nothing}
use Rattle.ect_trees.proofs.Followed.{follower_in_best}
use Rattle.ect_trees.proofs.Ends.{paths_are_best}

-- a path with its cost
abbrev with_cost : Graph → List SystemId → Path
with_cost g p = record { cost = cost_of g p; bridges = p }

-- graphs that are alike have the same best path, at the same cost
best_path_alike : (g h : Graph) (mask : ℕ) (a b : SystemId) → IsValid g → IsValid h → AreAlike g h → best_path h mask a b ≡ best_path g mask a b
best_path_alike g h mask a b v w s = by (best_of_cases g mask a b v)
  where
    same : best_of g mask a b ≡ best_of h mask a b
    same = order_says_nothing g h mask a b v w s

    by : (((p : List SystemId) → IsPath g a b p → ⊥) × (best_of g mask a b ≡ None)) ⊎ ((p : List SystemId) × (best_of g mask a b ≡ Some p) × IsBest g mask a b p) → best_path h mask a b ≡ best_path g mask a b
    by (inl n) = ap (option_map (with_cost h)) (sym same ∙ n.1) ∙ sym (ap (option_map (with_cost g)) n.1)
    by (inr m) =
        let cost : cost_of g m.0 ≡ cost_of h m.0 = cost_alike g h a b m.0 (paths_of_alike g h a v w s) m.2.path in
        let whole : with_cost h m.0 ≡ with_cost g m.0 = λ i. record { cost = sym cost i; bridges = m.0 } in
        ap (option_map (with_cost h)) (sym same ∙ m.1) ∙ (ap Some whole ∙ sym (ap (option_map (with_cost g)) m.1))

pub trees_alike : TreesAlike
trees_alike g h mask a t v w s best =
    record { from = best.from; best = λ to. best.best to ∙ best_path_alike g h mask a to v w s }

pub grown_is_best : GrownIsBest
grown_is_best g mask t v grown =
    record { from = refl; best = λ to. ap (λ ps. path_in ps to) grown.paths_are ∙ paths_are_best g mask t.source t.labels to v grown.best }

-- a follower read off such a tree
pub follower_alike : (g h : Graph) (mask : ℕ) (source m : SystemId) (to place : ℕ) (t : Paths) → IsValid g → IsValid h → AreAlike g h → GivesBest h mask source t → FollowsInTree g t m to place → IsFollower g mask source m to place
follower_alike g h mask source m to place t v w s best f =
    follower_in_best g mask source m t to place (trees_alike g h mask source t v w s best) f
