-- The trees from what a bridge reaches are those of its own graph.
use Rattle.std.proofs.Common.{◌≡◌, ℕ, true, ◌⊎◌, inl, inr, List, [], ◌∷◌, Option, Some, None, option_map, unwrap_or, refl, sym, ap, ◌∙◌, subst, arith}
use Rattle.std.proofs.lemmas.Bool.{false≢true}
use Rattle.std.specs.Prelude.{is_some, IfSome}
use Rattle.spb_types.specs.Ect.{mask_of}
use Rattle.spb_types.specs.Graph.{IsBridge, IsValid}
use Rattle.spb_types.specs.declared.address.SystemId.{SystemId}
use Rattle.spb_types.specs.declared.graph.Graph.{Graph}
use Rattle.spb_types.specs.declared.tables.Path.{Path}
use Rattle.spb_content.proofs.Uncut.{said_graph_has_all_links}
use Rattle.ect_trees.specs.Path.{Leads, IsPath, cost_along, cost_of}
use Rattle.ect_trees.specs.Best.{IsBest, best_of}
use Rattle.ect_trees.specs.Tree.{Paths, GivesBest, best_path}
use Rattle.ect_trees.specs.Laws.{AreAlike, IsPartOf, IsReached, LookAlike}
use Rattle.ect_trees.proofs.Members.{contains_from_has}
use Rattle.ect_trees.proofs.Exists.{best_of_cases}
use Rattle.ect_trees.proofs.Reached.{leads_start, reached_step, path_reached, bridge_entry, reached_bridge, part_looks_alike, looks_on}
use Rattle.ect_trees.proofs.Walks.{step}
use Rattle.ect_trees.proofs.Alike.{same_best}
use Rattle.ect_trees.proofs.TreesAlike.{trees_alike}
use Rattle.bridge_api.specs.Graph.{contents_of, read_graph}
use Rattle.bridge_api.proofs.GraphRead.{reads_each_once}
use Rattle.bridge_api.proofs.OwnTables.{is_part}
use Rattle.swift_bridge.specs.Shown.{IsTreeIn, CutKeepsTrees}
use Rattle.swift_bridge.proofs.UpToDate.{serve}

-- a path with its cost
abbrev with_cost : Graph → List SystemId → Path
with_cost g p = record { cost = cost_of g p; bridges = p }

-- what is reached has the same costs onwards in graphs that look alike
along_seen : (g h : Graph) (me x b : SystemId) (xs : List SystemId) → LookAlike g h me → IsReached g me x → Leads g x xs b → cost_along g x xs ≡ cost_along h x xs
along_seen g h me x b [] look r l = refl
along_seen g h me x b (y ∷ ys) look r l =
    let one : step g x y ≡ step h x y = ap (λ o. unwrap_or o 0) (look.costs x y r) in
    let more : cost_along g y ys ≡ cost_along h y ys = along_seen g h me y b ys look (reached_step g me x y r l.1 (leads_start g y b ys l.2)) l.2 in
    omega (arith, one, more)

cost_seen : (g h : Graph) (a b : SystemId) (p : List SystemId) → LookAlike g h a → IsPath g a b p → cost_of g p ≡ cost_of h p
cost_seen g h a b [] look w = refl
cost_seen g h a b (x ∷ xs) look w = along_seen g h a x b xs look (path_reached g a b x (x ∷ xs) w (inl refl)) w.1

-- graphs that look alike from a bridge have the same best paths from it, at the same costs
best_path_seen : (g h : Graph) (mask : ℕ) (a b : SystemId) → IsValid g → IsValid h → LookAlike g h a → best_path g mask a b ≡ best_path h mask a b
best_path_seen g h mask a b v w look = by (best_of_cases g mask a b v)
  where
    same : best_of g mask a b ≡ best_of h mask a b
    same = same_best g h mask a b v w look

    by : (((p : List SystemId) → IsPath g a b p → ⊥) × (best_of g mask a b ≡ None)) ⊎ ((p : List SystemId) × (best_of g mask a b ≡ Some p) × IsBest g mask a b p) → best_path g mask a b ≡ best_path h mask a b
    by (inl n) = ap (option_map (with_cost g)) n.1 ∙ sym (ap (option_map (with_cost h)) (sym same ∙ n.1))
    by (inr m) =
        let cost : cost_of g m.0 ≡ cost_of h m.0 = cost_seen g h a b m.0 look m.2.path in
        let whole : with_cost g m.0 ≡ with_cost h m.0 = λ i. record { cost = cost i; bridges = m.0 } in
        ap (option_map (with_cost g)) m.1 ∙ (ap Some whole ∙ sym (ap (option_map (with_cost h)) (sym same ∙ m.1)))

tree_in : (g : Graph) (mask : ℕ) (a : SystemId) (answer : Option Paths) → is_some answer ≡ true → IfSome answer (GivesBest g mask a) → IsTreeIn g mask a answer
tree_in g mask a None some best = absurd (false≢true some)
tree_in g mask a (Some t) some best = record { tree = t; answered = refl; best = best }

-- so the trees of one from a are those of the other
tree_seen : (g h : Graph) (mask : ℕ) (a : SystemId) (answer : Option Paths) → IsValid g → IsValid h → LookAlike g h a → IfSome answer (GivesBest g mask a) → IfSome answer (GivesBest h mask a)
tree_seen g h mask a None v w look best = best
tree_seen g h mask a (Some t) v w look best =
    record { from = best.from; best = λ to. best.best to ∙ best_path_seen g h mask a to v w look }

tree_alike : (g h : Graph) (mask : ℕ) (a : SystemId) (answer : Option Paths) → IsValid g → IsValid h → AreAlike g h → IfSome answer (GivesBest h mask a) → IfSome answer (GivesBest g mask a)
tree_alike g h mask a None v w alike best = best
tree_alike g h mask a (Some t) v w alike best = trees_alike g h mask a t v w alike best

-- a bridge of the part that `me` reaches is reached
part_reached : (whole g : Graph) (me a : SystemId) → IsPartOf whole me g → IsBridge g a → IsReached whole me a
part_reached whole g me a part there =
    let b = bridge_entry g.bridges a there in
    subst (IsReached whole me) b.2 ((part.bridges b.0).0 (contains_from_has g.bridges b.0 b.1)).1

pub cut_keeps_trees : CutKeepsTrees
cut_keeps_trees v g s source plan answer few own good trees there planned answers =
    let whole : Graph = read_graph v in
    let me : SystemId = v.id.system in
    let mask : ℕ = mask_of plan.ect in
    let all = said_graph_has_all_links (contents_of v) (reads_each_once v) few in
    let part : IsPartOf whole me g = is_part (contents_of v) me g (reads_each_once v) all own in
    let reached : IsReached whole me source = part_reached whole g me source part there in
    let look : LookAlike whole g source = looks_on whole g me source (part_looks_alike whole g me part) reached in
    let best : IfSome answer (GivesBest whole mask source) = tree_alike whole s.graph mask source answer all.valid trees.valid trees.alike answers.best in
    tree_in g mask source answer (answers.some ∙ (serve whole v.vids s trees).there source plan (reached_bridge whole me source reached) planned) (tree_seen whole g mask source answer all.valid good look best)
